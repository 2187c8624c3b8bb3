-- What holds of the queue at any moment, in the words of its users (docs/formats/ring.md, "The commit").
use Rattle.std.specs.Prelude.{◌≡◌, ℕ, true, List, Option}
use mathlib.Core.Option.{some}
use lib.ListN.{get_elem?}
use Rattle.wal_base.specs.Prefixes.{IsPrefixOf}
use Rattle.batch_repr.specs.Batches.{IsContiguous}
use Rattle.record_queue.specs.declared.node.Filled.{Filled}
use Rattle.record_flow.specs.declared.rule.FlowView.{FlowView}
use Rattle.record_flow.specs.Views.{records_of, first_numbers}
use Rattle.record_flow.specs.Flows.{Flows}

-- what the sender and the taker know at one moment: what was taken is a prefix of what was sent, from one first number on
pub record TakesPrefix (s p : FlowView) : Type 0 where
  pub numbers : IsPrefixOf (first_numbers p.taken) (first_numbers s.sent)
  pub records : IsPrefixOf p.taken s.sent
  pub first : p.first ≡ s.first
  pub in_order : IsContiguous s.first (records_of s.sent)

-- Wherever the rule holds, what the pass that pops has taken is a prefix of what the pass that pushes has sent.
abbrev pub TakenIsPrefixOfSent : Type 0
TakenIsPrefixOfSent = (nodes : List (Option Filled)) (views : List FlowView) (i j : ℕ) (s p : FlowView) → Flows nodes views
    → get_elem? views i ≡ some s → s.pushes ≡ true → get_elem? views j ≡ some p → p.pops ≡ true → TakesPrefix s p
