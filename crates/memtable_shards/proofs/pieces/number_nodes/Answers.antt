-- The first node is numbered, taken off, and linked behind the others.
use Rattle.std.proofs.Common.{◌≡◌, ◌++◌, ℕ, ◌+◌, List, true, false, refl, ap, ◌∙◌, arith}
use Rattle.memtable_shards.specs.Versions.{Version}
use Rattle.memtable_shards.specs.Parts.{counted_from, entry_of}
use Rattle.memtable_shards.proofs.Counting.{moved, number_fits, number_more, fewer_left, all_numbered, few_numbered}
use Rattle.memtable_shards.proofs.pieces.number_nodes.Goals as goal

pub loop-version-init : goal.loop-version-init
loop-version-init c = ap (λ (l : List Version). l ++ counted_from c.args.first c.args.nodes) c.new-numbered.ensures

pub overflow_add-version : goal.overflow_add-version
overflow_add-version c = record {
  fits = omega (
    arith,
    number_fits c.args.first c.loop-version.numbered c.loop-version.nodes (counted_from c.args.first c.args.nodes) c.in-Some.version.now
        c.loop-version.invariant c.requires.numbers (c.in-Some.ensures.variant.0 refl) c.in-Some.ensures.value,
    ap (λ (v : Version). v.number) c.version.view_is,
  );
}

pub unreachable-requires-in_default-append : goal.unreachable-requires-in_default-append
unreachable-requires-in_default-append c =
    let fails : false ≡ true = c.in_default-append.ensures.succeeds (omega (
      arith,
      few_numbered c.args.first c.loop-version.numbered c.loop-version.nodes (counted_from c.args.first c.args.nodes) c.split_off.new.self _
          c.loop-version.invariant c.requires c.in-Ok.ensures.items,
    )) in cc

pub loop-version-smaller : goal.loop-version-smaller
loop-version-smaller c = fewer_left c.loop-version.nodes c.in-Ok.rest _ (c.in-Some.ensures.variant.0 refl) c.in-Ok.ensures.tail

pub loop-version-preserved : goal.loop-version-preserved
loop-version-preserved c =
    let version : Version = c.in-Some.version.now in
    let new : record { entry = entry_of c.version.inside.change; number = c.version.inside.number + c.args.first } ≡ moved c.args.first version =
    ap (λ (v : Version). record { entry = v.entry; number = v.number + c.args.first }) c.version.view_is
    ∙ ap (λ (n : ℕ). record { entry = version.entry; number = n }) (omega arith) in
    number_more c.args.first c.loop-version.numbered c.loop-version.nodes (counted_from c.args.first c.args.nodes) c.split_off.new.self c.append.new.self
    c.in-Ok.rest version _ c.loop-version.invariant (c.in-Some.ensures.variant.0 refl) c.in-Some.ensures.value new c.in-Ok.ensures.items
    c.in-Ok.ensures.tail c.in-Ok-append.ensures.items

pub returns : goal.returns
returns c = all_numbered c.args.first c.loop-version.numbered c.loop-version.nodes (counted_from c.args.first c.args.nodes) c.loop-version.invariant
    c.in_default.ensures.variant.1
