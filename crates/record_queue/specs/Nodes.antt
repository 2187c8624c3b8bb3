-- What nodes hold: each is filled with a record and whether it is to be synced, or it is empty (docs/formats/journal.md, "The queue of records").
use Rattle.std.specs.Prelude.{◌≡◌, List, [], ◌∷◌, length, Option, Some, None}
use Rattle.batch_repr.specs.declared.batch.Batch.{Batch}
use Rattle.record_queue.specs.declared.node.Filled.{Filled}

-- The node is filled.
abbrev pub IsFilledNode : Option Filled → Type 0
IsFilledNode node = (f : Filled) × (node ≡ Some f)

-- what the first node of a list holds
abbrev pub in_first : List (Option Filled) → Option Filled
in_first [] = None
in_first (node ∷ nodes) = node

-- the records of the nodes that are filled, in order
abbrev pub linked_in : List (Option Filled) → List Batch
linked_in [] = []
linked_in (None ∷ nodes) = linked_in nodes
linked_in (Some f ∷ nodes) = f.rec ∷ linked_in nodes

-- Each node is filled: the records are as many as the nodes.
abbrev pub AreFilled : List (Option Filled) → Type 0
AreFilled nodes = length (linked_in nodes) ≡ length nodes
