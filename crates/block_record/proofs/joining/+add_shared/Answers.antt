use Rattle.std.proofs.Common.{◌≡◌, ℕ, ◌+◌, ◌-◌, ◌<◌, ◌++◌, List, length, get_or, map, take, drop, sym, ap, subst, ◌∙◌, arith}
use Rattle.std.specs.List.{All}
use Rattle.std.proofs.lemmas.List.{take_rest, length-take-le, length-drop, append_assoc}
use Rattle.std.proofs.lemmas.Result.{on_ok_weaker}
use Rattle.block_record.specs.declared.records.Rec.{Rec}
use Rattle.block_record.specs.declared.joining.Place.{Place}
use Rattle.block_record.specs.Joined.{rec_in, rec_after, AreApart, StandsBetween}
use Rattle.block_record.proofs.Joined.{all_stand, is_cut}
use Rattle.block_record.proofs.joining.+add_shared.Goals as goal

abbrev no_place : Place
no_place = record { at = 0; from = 0; to = 0 }

pub add_parts-requires : goal.add_parts-requires
add_parts-requires t c = all_stand 0 (length c.args.bytes.items) 0 (0 + length c.in_ok-piece.piece) c.args.places.now (omega arith) (omega (arith, ap length c.in_ok-piece.ensures)) c.requires

pub split_off-requires : goal.split_off-requires
split_off-requires t c =
    let first = c.last_piece-first.result in let places = c.args.places.now in
    let among : first < length places = omega (arith, c.last_piece-first.ensures, c.if-first-eq0.false) in
    let cut = is_cut c.args.bytes.items places first no_place among c.requires in
    omega (arith, c.args.bytes.ok, cut.within)

pub add_shared-requires : goal.add_shared-requires
add_shared-requires t c =
    let first = c.last_piece-first.result in let places = c.args.places.now in
    let among : first < length places = omega (arith, c.last_piece-first.ensures, c.if-first-eq0.false) in
    let cut = is_cut c.args.bytes.items places first no_place among c.requires in
    let place : ℕ = (get_or places first no_place).from in
    let front : c.shrink_to_fit.new.self.items ≡ take place c.args.bytes.items = c.shrink_to_fit.ensures.items ∙ c.in_ok-tail.ensures.items in
    let len : length c.shrink_to_fit.new.self.items ≡ place = ap length front ∙ length-take-le place c.args.bytes.items cut.within in
    let fewer : length (take first places) ≡ first = length-take-le first places (omega (arith, among)) in
    (omega (arith, c.decreases, fewer, among), subst (λ (n : ℕ). AreApart 0 n (take first places)) (sym len) cut.front)

pub add_parts-requires-2 : goal.add_parts-requires-2
add_parts-requires-2 t c =
    let first = c.last_piece-first.result in let places = c.args.places.now in
    let among : first < length places = omega (arith, c.last_piece-first.ensures, c.if-first-eq0.false) in
    let bytes = c.args.bytes.items in
    let cut = is_cut bytes places first no_place among c.requires in
    let place : ℕ = (get_or places first no_place).from in
    let tail : c.in_ok-piece-2.piece ≡ drop place bytes = c.in_ok-piece-2.ensures ∙ c.in_ok-tail.ensures.tail in
    let len : length c.in_ok-piece-2.piece ≡ length bytes - place = ap length tail ∙ length-drop place bytes in
    let end : place + length c.in_ok-piece-2.piece ≡ length bytes = omega (arith, len, cut.within) in
    subst (λ (n : ℕ). All (StandsBetween place n) (take (length places - first) (drop first places))) (sym end)
    (subst (All (StandsBetween place (length bytes))) (sym (take_rest places first)) cut.back)

pub returns : goal.returns
returns t c =
    let first = c.last_piece-first.result in let places = c.args.places.now in
    let among : first < length places = omega (arith, c.last_piece-first.ensures, c.if-first-eq0.false) in
    let bytes = c.args.bytes.items in
    let cut = is_cut bytes places first no_place among c.requires in
    let place : ℕ = (get_or places first no_place).from in
    let old = c.args.records.now in
    let tail : c.in_ok-piece-2.piece ≡ drop place bytes = c.in_ok-piece-2.ensures ∙ c.in_ok-tail.ensures.tail in
    let front : c.shrink_to_fit.new.self.items ≡ take place bytes = c.shrink_to_fit.ensures.items ∙ c.in_ok-tail.ensures.items in
    let in_front = map (rec_in (take place bytes)) (take first places) in
    let before : c.add_shared.new.records ≡ old ++ in_front = c.in_ok-add_shared.ensures ∙ ap (λ (b : List ℕ). old ++ map (rec_in b) (take first places)) front in
    let in_tail = map (rec_after place (drop place bytes)) (drop first places) in
    let behind : map (rec_after place c.in_ok-piece-2.piece) (take (length places - first) (drop first places)) ≡ in_tail =
    ap (λ (b : List ℕ). map (rec_after place b) (take (length places - first) (drop first places))) tail ∙ ap (map (rec_after place (drop place bytes))) (take_rest places first) in
    on_ok_weaker c.add_parts-2.result (λ e. e ∙ ap (λ (rs : List Rec). rs ++ map (rec_after place c.in_ok-piece-2.piece) (take (length places - first) (drop first places))) before
    ∙ ap (λ (rs : List Rec). old ++ in_front ++ rs) behind ∙ append_assoc old in_front in_tail ∙ ap (λ (rs : List Rec). old ++ rs) cut.same) c.add_parts-2.ensures
