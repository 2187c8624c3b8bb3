use Rattle.std.proofs.Common.{◌≡◌, ◌≢◌, ◌-◌, ℕ, List, ◌++◌, length, take, drop, arith, sym, ap, ◌∙◌, subst, rules}
use Rattle.std.proofs.lemmas.List.{take_rest}
use Rattle.batch_repr.specs.declared.fault.BatchFault.TheVariants as batch_faults
use Rattle.batch_repr.specs.Reading.{IsFirstFault}
use Rattle.wal_ship.specs.declared.fault.FollowFault.TheVariants as faults
use Rattle.wal_ship.specs.Stream.{in_frame}
use Rattle.wal_ship.specs.Following.{ShowsFault}
use Rattle.wal_ship.specs.Following.ShowsFault.{no_batch, wrong_sum}
use Rattle.wal_ship.proofs.WholeFrames.{other_sum, right_sum, text_none, text_size, text_some}
use Rattle.wal_ship.proofs.Judging.{fault_of, judged}
use Rattle.wal_ship.proofs.frame.read_whole.Goals as goal

pub returns-then-ne : goal.returns-then-ne
returns-then-ne c =
    let frame : List ℕ = c.args.frame.now in
    let text : List ℕ = take (length frame - 8) (drop 8 frame) in
    wrong_sum frame c.requires.full
    (other_sum frame text _ _ _ _ (take_rest frame 8) c.crc32c.ensures c.masked.ensures c.to_le_bytes-sum.ensures c.ne.ensures c.if-ne.true)

pub returns-then-is_empty : goal.returns-then-is_empty
returns-then-is_empty c =
    let frame : List ℕ = c.args.frame.now in
    let text : List ℕ = take (length frame - 8) (drop 8 frame) in
    right_sum frame text _ _ _ _ (take_rest frame 8) c.crc32c.ensures c.masked.ensures c.to_le_bytes-sum.ensures c.ne.ensures
    (λ i. omega (arith, c.type_inv.frame i)) c.requires.full c.if-ne.false
    ∙ ap in_frame (text_none text _ c.is_empty.ensures c.if-is_empty.true)

pub returns-in-Ok : goal.returns-in-Ok
returns-in-Ok c =
    let frame : List ℕ = c.args.frame.now in
    let text : List ℕ = take (length frame - 8) (drop 8 frame) in
    judged (c.args.local.now.batches ++ c.args.taken.now.batches) c.args.at frame c.in-Ok.batch c.judge.result (record {
      text = text;
      is = right_sum frame text _ _ _ _ (take_rest frame 8) c.crc32c.ensures c.masked.ensures c.to_le_bytes-sum.ensures c.ne.ensures
          (λ i. omega (arith, c.type_inv.frame i)) c.requires.full c.if-ne.false;
      some = text_some text _ c.is_empty.ensures c.if-is_empty.false;
      size = text_size frame text (take_rest frame 8) c.requires.full;
      spells = c.in-Ok.ensures.found;
    }) c.judge.ensures

pub returns-in-Err : goal.returns-in-Err
returns-in-Err c =
    let frame : List ℕ = c.args.frame.now in
    let text : List ℕ = take (length frame - 8) (drop 8 frame) in
    let known = c.args.local.now.batches ++ c.args.taken.now.batches in
    let is : frame ≡ in_frame text =
    right_sum frame text _ _ _ _ (take_rest frame 8) c.crc32c.ensures c.masked.ensures c.to_le_bytes-sum.ensures c.ne.ensures
    (λ i. omega (arith, c.type_inv.frame i)) c.requires.full c.if-ne.false in
    let other : c.in-Err.fault ≢ batch_faults.NoMemory = search rules in
    subst (λ (x : List ℕ). ShowsFault known c.args.at x (faults.Batch c.args.at c.in-Err.fault)) (sym is)
    (no_batch text c.in-Err.fault (text_some text _ c.is_empty.ensures c.if-is_empty.false) (text_size frame text (take_rest frame 8) c.requires.full)
    (fault_of (IsFirstFault text) c.in-Err.fault other c.in-Err.ensures.fault))
