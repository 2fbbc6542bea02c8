-- proof: a step that was done, field by field.
use Rattle.std.specs.Prelude.{suc, ◌+◌, Bool, if◌then◌else◌, not, [], ◌++◌, length, Option}
use Rattle.time_sharing.specs.Machine.{Line}
use Rattle.time_sharing.specs.Rows.{Outcome, is_logout, behind, one_less, in_line, out_all}
use Rattle.user_model.specs.Inner.{Inner}
use Rattle.user_model.specs.User.{User}

-- what a step leaves that takes this line and has this outcome; a command counts own steps anew
unfoldable pub left : Bool → Option Line → Outcome Inner → User → User
left is_command line o p =
    record p {
      inner = o.inner;
      on = not (is_logout o.ending);
      unread = if is_logout o.ending then [] else o.front ++ behind line p.unread;
      fed = if is_logout o.ending then 0 else length o.front + one_less line p.fed;
      transcript = p.transcript ++ (in_line line ++ out_all o.written);
      own = suc p.own;
      own_at_command = if is_command then p.own else p.own_at_command;
    }
