-- What a pass of the queue knows: whether it pushes and pops, the number of the first record, and what it moved (docs/formats/ring.md, "The commit").
use Rattle.std.specs.Prelude.{ℕ, Bool, true, false, List, [], ◌∷◌, ◌++◌, map}
use Rattle.batch_repr.specs.declared.batch.Batch.{Batch}
use Rattle.record_queue.specs.declared.node.Filled.{Filled}
use Rattle.record_flow.specs.declared.rule.FlowView.{FlowView}

abbrev pub flow_view : Bool → Bool → ℕ → List Filled → List Filled → FlowView
flow_view pushes pops first sent taken = record { pushes = pushes; pops = pops; first = first; sent = sent; taken = taken }

-- the one pass of a queue that has no first number yet
abbrev pub opening_view : FlowView
opening_view = flow_view true true 0 [] []

-- the pass that pushes, of a new queue for the records from this number on
abbrev pub send_opened : ℕ → FlowView
send_opened first = flow_view true false first [] []

-- the pass that pops, of a new queue for the records from this number on
abbrev pub flush_opened : ℕ → FlowView
flush_opened first = flow_view false true first [] []

-- One record more was sent.
abbrev pub sent_on : FlowView → Filled → FlowView
sent_on v f = record v { sent = v.sent ++ f ∷ [] }

-- One record more was taken.
abbrev pub taken_on : FlowView → Filled → FlowView
taken_on v f = record v { taken = v.taken ++ f ∷ [] }

-- What the sender knew, and what the taker knew: nothing more is sent.
abbrev pub ended_view : FlowView → FlowView → FlowView
ended_view sender taker = flow_view true true taker.first sender.sent taker.taken

-- a pass that can do nothing more
abbrev pub used_up_view : FlowView
used_up_view = flow_view false false 0 [] []

-- the records, without what is said of their sync
abbrev pub records_of : List Filled → List Batch
records_of fs = map (λ (f : Filled). f.rec) fs

-- the first numbers of the records, in their order
abbrev pub first_numbers : List Filled → List ℕ
first_numbers fs = map (λ (f : Filled). f.rec.first) fs
