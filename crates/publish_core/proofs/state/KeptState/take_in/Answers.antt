use Rattle.std.proofs.Common.{◌≡◌, ◌<◌, ℕ, List, length, set, ap, ◌∙◌, sym, subst, arith, length-set}
use Rattle.publish_core.specs.declared.seat.BatchShape.{BatchShape}
use Rattle.publish_core.specs.declared.seat.SeatState.{SeatState}
use Rattle.publish_core.specs.declared.state.KeptSeat.{KeptSeat}
use Rattle.publish_core.specs.Machine.{Among, CoreState, updated, nobody, renamed, joined}
use Rattle.publish_core.specs.Seated.{renamed_owner}
use Rattle.publish_core.specs.Kept.{kept_state, seat_of}
use Rattle.publish_core.proofs.Stored.{stored, stored_at, seat_written}
use Rattle.publish_core.proofs.Knows.{among_forward}
use Rattle.publish_core.proofs.Seated.{all_passed, joins}
use Rattle.publish_core.proofs.state.KeptState.take_in.Goals as goal

pub returns-clause-ok : goal.returns-clause-ok
returns-clause-ok c =
    let l : List KeptSeat = c.args.self.now.seats.items in let s : CoreState BatchShape = kept_state c.args.self.now in let into : ℕ = c.args.into in
    let note : ℕ = c.args.note in
    let given : KeptSeat = c.replace-given.result in let x1 : KeptSeat = c.replace-given.new.dest in
    let s1 : CoreState BatchShape = record s { made = length (set l note x1); seats = stored (set l note x1) } in
    let t3 : CoreState BatchShape = kept_state c.pass_held.new.self in let l3 : List KeptSeat = c.pass_held.new.self.seats.items in
    let was : seat_of given ≡ s.seats note = ap seat_of c.replace-given.ensures.value
    ∙ stored_at l note c.index_mut.result.now c.requires.made.1 c.index_mut.ensures.value in
    let e1 : s1 ≡ record s { seats = updated s.seats note nobody } =
    seat_written s l note x1 nobody c.requires.made.1 (ap seat_of c.replace-given.ensures.after ∙ c.spent.ensures) in
    let e2 : t3 ≡ record s1 { stage = λ i. renamed note into (s1.stage i); owner = λ i. renamed_owner note into (s1.owner i) } =
    all_passed note into given.own.items given.held s1 (kept_state c.pass_all.new.self) t3 c.pass_all.ensures.passed c.pass_held.ensures.passed
    (λ i z nh. c.requires.held i z (λ q. nh (ap (λ (d : SeatState). d.held) was ∙ q)))
    (λ i z na nh. c.requires.owned i z (λ a. na (among_forward i given.own.items (subst (λ (d : SeatState). Among i d.own) (sym was) a)))
    (λ q. nh (ap (λ (d : SeatState). d.held) was ∙ q))) in
    let same : l3 ≡ set l note x1 = c.pass_held.ensures.seats ∙ c.pass_all.ensures.seats in
    let long : length l3 ≡ length l = ap (λ (y : List KeptSeat). length y) same ∙ length-set l note x1 in
    let lt : into < length l3 = let h : into < length l = c.requires.made.0 in omega arith in
    let e3 = seat_written t3 l3 into c.absorb.new.self (joined (stored l3 into) (seat_of given)) lt
    (c.absorb.ensures ∙ ap (λ (d : SeatState). joined d (seat_of given)) (stored_at l3 into c.index_mut-2.result.now lt c.index_mut-2.ensures.value)) in
    joins s s1 t3 _ into note (seat_of given) c.requires.apart was e1 e2 e3
