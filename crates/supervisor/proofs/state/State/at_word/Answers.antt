use Rattle.std.proofs.Common.{◌≡◌, ◌<◌, ◌≤◌, ◌∷◌, [], ℕ, true, false, Some, None, OnOk, List, length, sym, ap, subst, ◌∙◌, arith}
use Rattle.ctss_types.specs.declared.script.Account.{Account}
use Rattle.time_sharing.specs.System.{On, LineTaken, Refused}
use Rattle.user_model.specs.User.{User}
use Rattle.system_model.specs.World.{check, account_in, account_with}
use Rattle.system_model.specs.Run.{Run}
use Rattle.system_model.specs.Cases.{heard, login_taken, user_at}
use Rattle.system_model.proofs.CaseLaws.{wrong_word, already_on, logs_in}
use Rattle.supervisor.specs.Seen.{run_seen}
use Rattle.supervisor.proofs.LoginWords.{login_unknown, login_already, login_right, account_within}
use Rattle.supervisor.proofs.state.State.at_word.Goals as goal

pub returns-in_default-clause-ok : goal.returns-in_default-clause-ok
unfolding check
returns-in_default-clause-ok c = λ places.
    let asks : check c.args.self.now.accounts.list c.args.name c.args.line ≡ None = ap (account_with c.args.self.now.accounts.list c.args.name) (sym c.password_in.ensures ∙ c.in_default.is) in
    subst (λ (r : Run). OnOk c.take_refusal.result (run_seen places c.take_refusal.new.self ≡ r)) (sym (wrong_word c.args.console c.args.name c.args.line (run_seen places c.args.self.now) c.take_refusal.ensures.seat asks)) (c.take_refusal.ensures.ok places)

pub take_login-requires-clause-within : goal.take_login-requires-clause-within
take_login-requires-clause-within c =
    let found = login_right (account_in 1 c.mark_on.new.accounts.list c.args.name c.in-Some.password) c.mark_on.new.accounts.on c.in-Right.user (sym c.check.ensures ∙ c.in-Right.is) in
    let w = account_within 1 c.mark_on.new.accounts.list c.args.name c.in-Some.password c.in-Right.user found.0 in
    let a = w.1 in
    let n = ap (λ (xs : List Account). length xs) c.mark_on.ensures.list in
    let m = c.requires.accounts in
    omega (arith, a, n, m)

pub returns-in-Unknown-clause-ok : goal.returns-in-Unknown-clause-ok
unfolding check
returns-in-Unknown-clause-ok c = λ places.
    let none = login_unknown (account_in 1 c.mark_on.new.accounts.list c.args.name c.in-Some.password) c.mark_on.new.accounts.on (sym c.check.ensures ∙ c.in-Unknown.is) in
    let asks : check c.args.self.now.accounts.list c.args.name c.args.line ≡ None =
    ap (account_with c.args.self.now.accounts.list c.args.name) (sym c.password_in.ensures ∙ c.in-Some.is)
    ∙ ap (λ (xs : List Account). account_in 1 xs c.args.name c.in-Some.password) (sym c.mark_on.ensures.list) ∙ none in
    subst (λ (r : Run). OnOk c.take_refusal-in-Unknown.result (run_seen places c.take_refusal-in-Unknown.new.self ≡ r))
    (ap (λ (xs : List Account). heard c.args.console LineTaken On (Refused c.args.self.now.clock c.args.console 1 ∷ []) (record (run_seen places c.args.self.now) { accounts = xs })) c.mark_on.ensures.list
    ∙ sym (wrong_word c.args.console c.args.name c.args.line (run_seen places c.args.self.now) c.take_refusal-in-Unknown.ensures.seat asks))
    (c.take_refusal-in-Unknown.ensures.ok places)

pub returns-in-Already-clause-ok : goal.returns-in-Already-clause-ok
unfolding check
returns-in-Already-clause-ok c = λ places.
    let found = login_already (account_in 1 c.mark_on.new.accounts.list c.args.name c.in-Some.password) c.mark_on.new.accounts.on (sym c.check.ensures ∙ c.in-Already.is) in
    let u : ℕ = found.0 in
    let w = account_within 1 c.mark_on.new.accounts.list c.args.name c.in-Some.password u found.1 in
    let some : 0 < u = w.0 in
    let n = ap (λ (xs : List Account). length xs) c.mark_on.ensures.list in
    let most : u ≤ length c.args.self.now.accounts.list = (let a = w.1 in omega (arith, a, n)) in
    let asks : check c.args.self.now.accounts.list c.args.name c.args.line ≡ Some u =
    ap (account_with c.args.self.now.accounts.list c.args.name) (sym c.password_in.ensures ∙ c.in-Some.is)
    ∙ ap (λ (xs : List Account). account_in 1 xs c.args.name c.in-Some.password) (sym c.mark_on.ensures.list) ∙ found.1 in
    let on : (user_at u c.args.self.now.sessions.items).on ≡ true =
    ap (λ (us : List User). (user_at u us).on) (sym c.as_slice.ensures.value) ∙ sym (c.mark_on.ensures.on u some most) ∙ found.2 in
    subst (λ (r : Run). OnOk c.take_refusal-in-Already.result (run_seen places c.take_refusal-in-Already.new.self ≡ r))
    (ap (λ (xs : List Account). heard c.args.console LineTaken On (Refused c.args.self.now.clock c.args.console 2 ∷ []) (record (run_seen places c.args.self.now) { accounts = xs })) c.mark_on.ensures.list
    ∙ sym (already_on c.args.console u c.args.name c.args.line (run_seen places c.args.self.now) c.take_refusal-in-Already.ensures.seat some asks on))
    (c.take_refusal-in-Already.ensures.ok places)

pub returns-in-Right-clause-ok : goal.returns-in-Right-clause-ok
unfolding check
returns-in-Right-clause-ok c = λ places.
    let u : ℕ = c.in-Right.user in
    let found = login_right (account_in 1 c.mark_on.new.accounts.list c.args.name c.in-Some.password) c.mark_on.new.accounts.on u (sym c.check.ensures ∙ c.in-Right.is) in
    let w = account_within 1 c.mark_on.new.accounts.list c.args.name c.in-Some.password u found.0 in
    let some : 0 < u = w.0 in
    let n = ap (λ (xs : List Account). length xs) c.mark_on.ensures.list in
    let most : u ≤ length c.args.self.now.accounts.list = (let a = w.1 in omega (arith, a, n)) in
    let asks : check c.args.self.now.accounts.list c.args.name c.args.line ≡ Some u =
    ap (account_with c.args.self.now.accounts.list c.args.name) (sym c.password_in.ensures ∙ c.in-Some.is)
    ∙ ap (λ (xs : List Account). account_in 1 xs c.args.name c.in-Some.password) (sym c.mark_on.ensures.list) ∙ found.0 in
    let off : (user_at u c.args.self.now.sessions.items).on ≡ false =
    ap (λ (us : List User). (user_at u us).on) (sym c.as_slice.ensures.value) ∙ sym (c.mark_on.ensures.on u some most) ∙ found.1 in
    subst (λ (r : Run). OnOk c.take_login.result (run_seen places c.take_login.new.self ≡ r))
    (ap (λ (xs : List Account). login_taken c.args.console u (record (run_seen places c.args.self.now) { accounts = xs })) c.mark_on.ensures.list
    ∙ sym (logs_in c.args.console u c.args.name c.args.line (run_seen places c.args.self.now) c.take_login.ensures.seat some asks off))
    (c.take_login.ensures.ok places)
