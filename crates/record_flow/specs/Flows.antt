-- The rule of the queue: what was popped is a prefix of what was pushed, and the rest is on its way (docs/formats/ring.md, "The commit").
use Rattle.std.specs.Prelude.{◌≡◌, ℕ, ◌<◌, ◌≤◌, true, List, ◌++◌, length, map, Option, Some}
use mathlib.Core.Option.{some}
use lib.ListN.{get_elem?}
use Rattle.crossbeam_queue.specs.Fifo.{Held}
use Rattle.batch_repr.specs.Batches.{count_of, end_after, IsContiguous}
use Rattle.batch_repr.specs.declared.limits.TheConstants.{BATCHES_MAX}
use Rattle.record_queue.specs.declared.node.Filled.{Filled}
use Rattle.record_flow.specs.declared.rule.FlowView.{FlowView}
use Rattle.record_flow.specs.Views.{records_of, sent_on, taken_on}

-- What a pass knows of all that was sent and taken: only the sender's pass pushes, and only the taker's pops.
pub record PassFits (sender taker first : ℕ) (sent taken : List Filled) (port : ℕ) (v : FlowView) : Type 0 where
  pub pushes : v.pushes ≡ true → (port ≡ sender) × (v.sent ≡ sent) × (v.first ≡ first)
  pub pops : v.pops ≡ true → (port ≡ taker) × (v.taken ≡ taken) × (v.first ≡ first)

-- Each node on its way is filled; what was taken and then what is on its way is what was sent; and that is numbered one
-- after another from the first number on.
pub record Flows (nodes : List (Option Filled)) (views : List FlowView) : Type 0 where
  pub sender : ℕ
  pub taker : ℕ
  pub first : ℕ
  pub sent : List Filled
  pub taken : List Filled
  pub rest : List Filled
  pub filled : nodes ≡ map Some rest
  pub whole : sent ≡ taken ++ rest
  pub in_order : IsContiguous first (records_of sent)
  pub few : length sent ≤ BATCHES_MAX
  pub each : (port : ℕ) (v : FlowView) → get_elem? views port ≡ some v → PassFits sender taker first sent taken port v

-- The record comes next after these, of which the first begins at a number.
pub record ComesNext (first : ℕ) (before : List Filled) (f : Filled) : Type 0 where
  pub next : f.rec.first ≡ end_after first (records_of before)
  pub some : 0 < count_of f.rec.entries
  pub few : length before < BATCHES_MAX

-- the number of the record that is sent next
abbrev pub next_to_send : FlowView → ℕ
next_to_send v = end_after v.first (records_of v.sent)

-- The node is filled, and its record comes next after those sent.
abbrev pub CanSend : FlowView → Option Filled → Type 0
CanSend v node = (f : Filled) × (node ≡ Some f) × ComesNext v.first v.sent f

-- The record of the node is one more that was sent.
abbrev pub SendsRecord : Option Filled → FlowView → FlowView → Type 0
SendsRecord node v w = (f : Filled) → node ≡ Some f → w ≡ sent_on v f

-- The record of the node is one more that was taken.
abbrev pub TakesRecord : Option Filled → FlowView → FlowView → Type 0
TakesRecord node v w = (f : Filled) → node ≡ Some f → w ≡ taken_on v f

-- The record of the node comes next after those taken.
abbrev pub IsNextTaken : Option Filled → FlowView → Type 0
IsNextTaken node v = (f : Filled) → node ≡ Some f → ComesNext v.first v.taken f

-- All that was sent is taken.
abbrev pub TookAll : FlowView → Type 0
TookAll v = v.sent ≡ v.taken

-- What a pass knows where these nodes are on their way: the records of all others that were sent are taken.
pub record OnTheWay (v : FlowView) (nodes : List (Option Filled)) : Type 0 where
  pub first : ℕ
  pub sent : List Filled
  pub taken : List Filled
  pub rest : List Filled
  pub filled : nodes ≡ map Some rest
  pub whole : sent ≡ taken ++ rest
  pub by_sender : v.pushes ≡ true → (v.sent ≡ sent) × (v.first ≡ first)
  pub by_taker : v.pops ≡ true → (v.taken ≡ taken) × (v.first ≡ first)

-- At one moment no node was on its way.
abbrev pub WasEmpty : FlowView → Type 0
WasEmpty v = Held 0 (OnTheWay v)

-- The pass that pops knows what was sent: nothing more is.
abbrev pub HasEnded : FlowView → Type 0
HasEnded v = (v.pushes ≡ true) × (v.pops ≡ true)
