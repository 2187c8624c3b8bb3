-- What a status says, by what the run had to say and by how writing it ended.
use Rattle.std.proofs.Common.{inr, ℕ, List}
use Rattle.wal_top.specs.declared.status.Status.{Status}
use Rattle.wal_top.specs.declared.status.Status.TheVariants.{Done, Usage, Script, Read, Write, Disk, Refused, NoMemory, Limit}
use Rattle.wal_top.specs.Call.{Run, Rises}
use Rattle.wal_top.specs.ByCommand.{HasToSay}
use Rattle.wal_top.specs.Rightly.{IsOfCommand, SaysRightly}
use Rattle.wal_top.specs.Run.{Wrote, WrotePart, Says}

module _ (words : List (List ℕ)) (r : Run) where
  -- the text was written whole
  all : (status : Status) (text : List ℕ) → Wrote r.written.before r.written.after text → IsOfCommand status
      → HasToSay words r.call status text → Says words r status
  all Done text wrote told says = (text, says, wrote)
  all Usage text wrote told says = (text, says, wrote)
  all Script text wrote told says = (text, says, wrote)
  all Read text wrote told says = (text, says, wrote)
  all Write text wrote told says = absurd told
  all Disk text wrote told says = (text, says, wrote)
  all Refused text wrote told says = (text, says, wrote)
  all NoMemory text wrote told says = absurd told
  all Limit text wrote told says = (text, says, wrote)

  pub says_all : (status : Status) (text : List ℕ) → Wrote r.written.before r.written.after text → SaysRightly words r.call status text
      → Says words r status
  says_all status text wrote s = all status text wrote s.told s.says

  -- the sink failed within it
  pub says_part : (status : Status) (text : List ℕ) → Rises r.sink_faults → WrotePart r.written.before r.written.after text
      → SaysRightly words r.call status text → Says words r Write
  says_part status' text' rose part' s = (rose, record { status = status'; text = text'; says = s.says; part = part' })

  -- the sink ran out of memory within it
  pub says_short : (status : Status) (text : List ℕ) → Rises r.shortages → WrotePart r.written.before r.written.after text
      → SaysRightly words r.call status text → Says words r NoMemory
  says_short status' text' rose part' s = inr (rose, record { status = status'; text = text'; says = s.says; part = part' })
