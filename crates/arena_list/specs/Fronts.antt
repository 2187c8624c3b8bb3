-- The front that the keys of a list have in common, and leads of what follows it. Nothing of it is seen from outside.
use Rattle.std.specs.Prelude.{◌≡◌, ℕ, ◌<◌, List, Contains, length, take, drop}
use Rattle.arena_list.specs.declared.node.Node.{Node}
use Rattle.arena_list.specs.declared.sought.Sought.{Sought}
use Rattle.arena_list.specs.Leads.{lead_of, LeadsTell, AreBytes}
use Rattle.arena_list.specs.Nodes.{key_of, node_at, places_on}

-- A node's key begins with the front, and its lead is that of what follows.
pub record IsLed (front : List ℕ) (node : Node) : Type 0 where
  pub begins : take (length front) (key_of node.held) ≡ front
  pub lead : node.lead ≡ lead_of (drop (length front) (key_of node.held))
  pub bytes : AreBytes (key_of node.held)

-- So it is with each node that is linked.
abbrev pub AllLed : List ℕ → List Node → Type 0
AllLed front nodes = (place : ℕ) → Contains (places_on nodes 0) place → IsLed front (node_at nodes place)

-- The keys of all linked nodes have a front of so many bytes.
pub record ShareFront (shared : ℕ) (nodes : List Node) : Type 0 where
  pub front : List ℕ
  pub len : length front ≡ shared
  pub led : AllLed front nodes

-- A node's key has a front of so many bytes.
abbrev pub HasFront : ℕ → Node → Type 0
HasFront shared node = (front : List ℕ) × (length front ≡ shared) × IsLed front node

-- So have the keys of two nodes, and it is the same.
abbrev pub HaveFront : ℕ → Node → Node → Type 0
HaveFront shared node other = (front : List ℕ) × (length front ≡ shared) × IsLed front node × IsLed front other

-- The leads tell how each key stands to the one that is sought.
abbrev pub IsNodeTold : Node → Sought → Type 0
IsNodeTold node sought = LeadsTell (key_of node.held) node.lead sought.key.now sought.lead sought.extent

abbrev pub AreTold : List Node → Sought → Type 0
AreTold nodes sought = (place : ℕ) → Contains (places_on nodes 0) place → IsNodeTold (node_at nodes place) sought

-- No more than leads differ.
pub record KeepsAllButLeads (old new : List Node) : Type 0 where
  pub len : length new ≡ length old
  pub held : (place : ℕ) → (node_at new place).held ≡ (node_at old place).held
  pub seq : (place : ℕ) → (node_at new place).seq ≡ (node_at old place).seq
  pub links : (place : ℕ) → (node_at new place).links ≡ (node_at old place).links

-- No more than leads differ, and those of so many nodes are of what follows the first bytes.
pub record LeadsAnew (old : List Node) (shared count : ℕ) (new : List Node) : Type 0 where
  pub kept : KeepsAllButLeads old new
  pub lead : (place : ℕ) → place < count → (node_at new place).lead ≡ lead_of (drop shared (key_of (node_at new place).held))
