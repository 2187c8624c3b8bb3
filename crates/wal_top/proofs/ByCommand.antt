-- What holds of the command of the words holds of a run with these words.
use Rattle.std.proofs.Common.{ℕ, List, Result, subst}
use Rattle.std.specs.Prelude.{IfOk}
use Rattle.disk_face.specs.Calls.{WentOn}
use Rattle.command_line.specs.declared.command.Command.{Command}
use Rattle.command_line.specs.Commands.{IsCommandOf}
use Rattle.command_line.proofs.Laws.{one_command}
use Rattle.wal_top.specs.declared.said.Said.{Said}
use Rattle.wal_top.specs.declared.status.Status.{Status}
use Rattle.wal_top.specs.Call.{Invocation}
use Rattle.wal_top.specs.ByCommand.{SaysOf, IsDueOf, LeavesOf, asked, IsDue, asked_due, unasked_due}
use Rattle.wal_top.specs.Rightly.{IsOfCommand, IsTheDue, SaysRightly}
use Rattle.wal_top.specs.Run.{Leaves}
use Rattle.wal_top.proofs.Saying.{ok_map}

module _ (words : List (List ℕ)) (c : Invocation) (command : Command) (is : IsCommandOf words command) where
  due_is : (said : Status) → IsTheDue (IsDueOf command c) said → IsTheDue (IsDue words c) said
  due_is said h due (asked_due other other_is d) =
      h due (subst (λ (k : Command). IsDueOf k c due) (one_command words other command other_is is) d)
  due_is said h _ (unasked_due none) = absurd (none command is)

  -- what it says, the words have to say
  pub says_of : {E : Type 0} (said : Result Said E) → IfOk said (λ s. SaysOf command c s.status s.text)
      → ((text : List ℕ) (status : Status) → SaysOf command c status text → IsOfCommand status)
      → ((text : List ℕ) (status : Status) → SaysOf command c status text → IsTheDue (IsDueOf command c) status)
      → IfOk said (λ s. SaysRightly words c s.status s.text)
  says_of said h told due = ok_map said h (λ s p. record {
    says = asked command is p;
    told = told s.text s.status p;
    due = due_is s.status (due s.text s.status p);
  })

  -- what it leaves, the run leaves
  pub leaves_of : WentOn c.disk.before c.disk.after → LeavesOf command c → Leaves words c
  leaves_of went h = record {
    went_on = went;
    of_command = λ other other_is. subst (λ (k : Command). LeavesOf k c) (one_command words command other is other_is) h;
    of_none = λ none. absurd (none command is);
  }
