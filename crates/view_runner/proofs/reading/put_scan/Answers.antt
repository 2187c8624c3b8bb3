-- The pairs that came are those of the scan, each with its line, and their number ends it.
use Rattle.std.proofs.Common.{rules, ◌≡◌, ◌++◌, ℕ, List, map, length, ap, sym, ◌∙◌, append_assoc, subst}
use Rattle.std.specs.List.{flat_map}
use Rattle.std.proofs.lemmas.Result.{on_ok_weaker}
use Rattle.std.proofs.lemmas.Iterator.Consumers.{YieldsList-end, YieldsList-from_first}
use Rattle.snapshot_view.specs.Scans.{KeyValue, pair_shown}
use Rattle.snapshot_view.specs.Views.{IsScanOf}
use Rattle.snapshot_view.proofs.Laws.{one_at}
use Rattle.view_runner.specs.Texts.{pair_line, scan_end, scan_lines}
use Rattle.view_runner.proofs.reading.put_scan.Goals as goal

pub returns : goal.returns
returns c =
    let pairs : List KeyValue = c.scan-pair-items.result in
    let ends = YieldsList-end (YieldsList-from_first pair_shown (λ (s : List KeyValue). s) {s = c.into_iter-pair-iterator.result} pairs (search rules))
    c.loop-pair.yielded c.loop-pair.pair-iterator c.loop-pair.yielded_by c.next.result c.next.new.self c.in-None.is c.next.ensures.steps in
    let out = c.args.out.now in
    let lines : c.loop-pair.out ≡ out ++ flat_map pair_line pairs =
    c.loop-pair.invariant.text ∙ ap (λ (ps : List KeyValue). out ++ flat_map pair_line ps) ends.0 in
    on_ok_weaker c.put_scan_end.result (λ written at held.
    let same : c.number_of-at.result ≡ at = one_at c.args.view.now.holds c.args.id.number c.number_of-at.result at c.number_of-at.ensures held in (
      pairs,
      c.scan-pair-items.ensures at held,
      written ∙ ap (λ (t : List ℕ). t ++ scan_end c.loop-pair.count c.number_of-at.result) lines
          ∙ append_assoc out (flat_map pair_line pairs) (scan_end c.loop-pair.count c.number_of-at.result)
          ∙ ap (λ (n : ℕ). out ++ (flat_map pair_line pairs ++ scan_end n c.number_of-at.result)) (c.loop-pair.invariant.count ∙ ends.1)
          ∙ ap (λ (n : ℕ). out ++ (flat_map pair_line pairs ++ scan_end (length pairs) n)) same,
    ))
    c.put_scan_end.ensures
