-- Every directory of every record keeps its rules: each user's own files, and the common ones.
use Rattle.std.proofs.Common.{◌≡◌, ℕ, suc, ◌-◌, ◌<◌, ◌≤◌, Bool, List, [], ◌∷◌, length, filter, get_or, nat_eq, Ok, Err, refl, sym, subst, ◌∙◌, arith}
use Rattle.std.specs.declared.result.Result.{Result}
use Rattle.std.proofs.lemmas.List.Elements.{All-map, All-filter}
use Rattle.ctss_types.specs.declared.script.Script.{Script}
use Rattle.ctss_types.specs.declared.script.Account.{Account}
use Rattle.ctss_types.specs.declared.file.FileBody.{FileBody}
use Rattle.ctss_types.specs.declared.file.OwnedFile.{OwnedFile}
use Rattle.ctss_types.specs.declared.file.Refusal.{Refusal}
use Rattle.ctss_types.specs.declared.file.CommonOp.TheVariants as op
use Rattle.time_sharing.specs.Machine.{CutKind, Quit, Hang, Spent, End, CommonOp}
use Rattle.time_sharing.specs.Rows.{machine, line_of, own_at_command_of, one_less}
use Rattle.time_sharing.specs.Feeds.{feed_of}
use Rattle.time_sharing.specs.Commons.{operations_of, files_left}
use Rattle.file_model.specs.Files.{written, put, deleted}
use Rattle.file_model.specs.Commons.{left_by, files_after}
use Rattle.file_model.specs.Owned.{files_of}
use Rattle.text_model.specs.Drafts.{quota_of}
use Rattle.text_model.specs.Reading.{IsInRange}
use Rattle.user_model.specs.Session.{user_rows, next_of, asks_common_at, no_account}
use Rattle.user_model.specs.User.{User}
use Rattle.system_model.specs.World.{world_with}
use Rattle.system_model.specs.Record.{record_of, first_of_user}
use Rattle.system_model.proofs.AloneLaws.{users_are_alone, commons_are_one}
use Rattle.record_laws.specs.Rules.{KeepsRules}
use Rattle.record_laws.specs.DirectoryLaws.{DirectoriesKeepRules}
use Rattle.record_laws.proofs.Changes.{Gives, none_keeps, written_keeps, put_keeps, deleted_keeps}
use Rattle.record_laws.proofs.Steps.{KeepsFiles, any_step_keeps, cut_keeps}
use Rattle.record_laws.proofs.Machines.{EachKeeps, alone_keeps}

-- a user's own files

-- a user of an account, whose files keep the rules
abbrev IsRuled : Account → User → Type 0
IsRuled account p = (p.inner.account ≡ account) × KeepsRules account.tracks p.inner.files

-- what keeps the rules of any files keeps them of these
still_ruled : (account : Account) (p q : User) → KeepsFiles p.inner q.inner → IsRuled account p → IsRuled account q
still_ruled account p q k h = (
  k.0 ∙ h.0,
  subst (λ (a : Account). KeepsRules a.tracks q.inner.files) h.0
      (k.1 (subst (λ (a : Account). KeepsRules a.tracks p.inner.files) (sym h.0) h.1)),
)

-- each move of a user's machine keeps the rules
each_keeps : (account : Account) → EachKeeps (machine user_rows) (IsRuled account)
each_keeps account =
    record {
      step = λ p t r h.
          still_ruled account p ((machine user_rows).step p t r)
          (any_step_keeps (asks_common_at (next_of p.inner) p.inner (line_of user_rows p)) (next_of p.inner) p.inner (line_of user_rows p)
          (suc p.own - own_at_command_of user_rows p) (one_less (line_of user_rows p) p.fed) t r) h;
      typed = λ p l h. h;
      opened = λ p h. h;
      cut = by_cut;
    }
  where
    by_cut : (kind : CutKind) (p : User) → IsRuled account p → IsRuled account ((machine user_rows).cut kind p)
    by_cut Quit p h = still_ruled account p ((machine user_rows).cut Quit p) (cut_keeps Quit p.inner) h
    by_cut Hang p h = still_ruled account p ((machine user_rows).cut Hang p) (cut_keeps Hang p.inner) h
    by_cut Spent p h = still_ruled account p ((machine user_rows).cut Spent p) (cut_keeps Spent p.inner) h
    by_cut End p h = h

-- a user's first files keep the rules
first_keeps : (script : Script) → IsInRange script → (u : ℕ) → 1 ≤ u → u ≤ length script.accounts
    → KeepsRules (quota_of u script.accounts) (files_of u script.files)
first_keeps script range u from within =
    record {
      modes =
          All-map (λ (f : FileBody). f.mode ≤ 3) (λ (f : OwnedFile). f.body) (filter is_own script.files)
          (All-filter is_own (λ (f : OwnedFile). f.body.mode ≤ 3) script.files range.modes);
      differ = range.names u;
      tracks = range.tracks u from within;
    }
  where
    is_own : OwnedFile → Bool
    is_own f = nat_eq f.owner u

-- and so do the files that the user leaves
left_keeps : (script : Script) → IsInRange script → (u : ℕ) → 0 < u → u ≤ length script.accounts
    → KeepsRules (quota_of u script.accounts) (get_or (record_of script).files (u - 1) [])
left_keeps script range u pos within =
    subst (KeepsRules account.tracks) (sym (users_are_alone script u pos within).files)
    (alone_keeps (machine user_rows) (IsRuled account) (each_keeps account) (first_of_user script u)
    (feed_of u script.events (record_of script).entries) (refl, first_keeps script range u (omega arith) within)).1
  where
    account : Account
    account = get_or script.accounts (u - 1) no_account

-- common files

-- an operation keeps the rules
operation_keeps : (quota : ℕ) (files : List FileBody) (operation : CommonOp) → KeepsRules quota files
    → KeepsRules quota (files_after quota files operation)
operation_keeps quota files operation h = by_operation operation
  where
    left : (told : Result (List FileBody) Refusal) → Gives quota told → KeepsRules quota (left_by told files)
    left (Ok made) k = k
    left (Err r) k = h

    by_operation : (o : CommonOp) → KeepsRules quota (files_after quota files o)
    by_operation (op.Stat name) = h
    by_operation (op.Read name place count) = h
    by_operation (op.Write name place words) =
        left (written name place words quota files) (written_keeps name place words quota files h)
    by_operation (op.Delete name) = left (deleted name files) (deleted_keeps name quota files h)
    by_operation (op.Put name words) = left (put name words quota files) (put_keeps name words quota files h)
    by_operation (op.Get name) = h

-- any operations one after another
operations_keep : (swap common : ℕ) (accounts : List Account) (operations : List CommonOp) (files : List FileBody)
    → KeepsRules common files → KeepsRules common (files_left (world_with swap common accounts) files operations)
operations_keep swap common accounts [] files h = h
operations_keep swap common accounts (o ∷ os) files h =
    operations_keep swap common accounts os (files_after common files o) (operation_keeps common files o h)

-- all directories of a record
pub directories_keep_rules : DirectoriesKeepRules
directories_keep_rules script range = (
  left_keeps script range,
  subst (KeepsRules script.params.common) (sym (commons_are_one script).files)
      (operations_keep script.params.swap script.params.common script.accounts
      (operations_of (record_of script).entries) [] (none_keeps script.params.common)),
)
