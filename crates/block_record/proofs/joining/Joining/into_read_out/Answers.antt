use Rattle.std.proofs.Common.{◌≡◌, List, ◌++◌, map, take, ap, ◌∙◌, arith}
use Rattle.std.proofs.lemmas.List.{take-take}
use Rattle.block_record.specs.declared.records.Rec.{Rec}
use Rattle.block_record.specs.Joined.{Joined, rec_in}
use Rattle.block_record.proofs.Joined.{kept_records, all_end}
use Rattle.block_record.proofs.joining.Joining.into_read_out.Goals as goal

pub returns-clause-records : goal.returns-clause-records
returns-clause-records c =
    let s = c.self.inside in
    let bytes = c.shrink_to_fit.new.self.items in
    let limit = s.rest.from in
    let whole = s.whole.items in
    let cut : bytes ≡ take limit s.bytes.items = c.shrink_to_fit.ensures.items ∙ c.truncate.ensures.items in
    let kept : take limit bytes ≡ take limit s.bytes.items = ap (take limit) cut ∙ take-take limit limit s.bytes.items (omega arith) in
    let same : map (rec_in bytes) whole ≡ map (rec_in s.bytes.items) whole = kept_records s.bytes.items bytes limit whole kept
    (all_end 0 limit whole c.self.invariant.before) in
    c.in_ok-add_shared.ensures
    ∙ ap (λ (rs : List Rec). rs ++ map (rec_in bytes) c.deref.result.now) c.in_ok-records.ensures
    ∙ ap (map (rec_in bytes)) c.deref.ensures.value
    ∙ same
    ∙ ap (λ (j : Joined). j.spelled.records) c.self.view_is
