-- Bytes that print as themselves wait, and are added as one piece before the next byte that does not.
use Rattle.std.proofs.Common.{◌≡◌, ℕ, ◌+◌, ◌-◌, ◌<◌, ◌≤◌, List, [], ◌∷◌, ◌++◌, length, take, drop, get_or, sym, ap, ◌∙◌, append_assoc, arith}
use Rattle.std.specs.List.{flat_map}
use Rattle.std.proofs.lemmas.List.{take_more, drop-append-le, drop-take, drop_all, flat_map_more, append-nil, length-take-le}
use Rattle.text_lines.specs.Printed.{printed_byte}

-- the text goes on by the next byte, as it is printed
printed_more : (text old bytes : List ℕ) (at : ℕ) → at < length bytes → text ≡ old ++ flat_map printed_byte (take at bytes)
    → text ++ printed_byte (get_or bytes at 0) ≡ old ++ flat_map printed_byte (take (at + 1) bytes)
printed_more text old bytes at below seen =
    let byte = get_or bytes at 0 in
    ap (λ t. t ++ printed_byte byte) seen ∙ flat_map_more printed_byte old (take at bytes) byte
    ∙ ap (λ t. old ++ flat_map printed_byte t) (sym (take_more bytes at 0 below))

-- one more byte waits
pub waits_more : (out old bytes : List ℕ) (start at : ℕ) → at < length bytes → start ≤ at
    → printed_byte (get_or bytes at 0) ≡ get_or bytes at 0 ∷ []
    → out ++ drop start (take at bytes) ≡ old ++ flat_map printed_byte (take at bytes)
    → out ++ drop start (take (at + 1) bytes) ≡ old ++ flat_map printed_byte (take (at + 1) bytes)
waits_more out old bytes start at below behind plain seen =
    let byte = get_or bytes at 0 in
    let size = length-take-le at bytes (omega arith) in
    ap (λ t. out ++ drop start t) (take_more bytes at 0 below) ∙ ap (λ t. out ++ t) (drop-append-le start (take at bytes) (byte ∷ []) (omega (arith, size)))
    ∙ sym (append_assoc out (drop start (take at bytes)) (byte ∷ [])) ∙ ap (λ t. (out ++ drop start (take at bytes)) ++ t) (sym plain)
    ∙ printed_more (out ++ drop start (take at bytes)) old bytes at below seen

-- what waited is added, and a byte after it; nothing waits now
pub run_ends : (out mid new old bytes : List ℕ) (start at : ℕ) → at < length bytes → start ≤ at
    → mid ≡ out ++ take (at - start) (drop start bytes) → new ≡ mid ++ printed_byte (get_or bytes at 0)
    → out ++ drop start (take at bytes) ≡ old ++ flat_map printed_byte (take at bytes)
    → new ++ drop (at + 1) (take (at + 1) bytes) ≡ old ++ flat_map printed_byte (take (at + 1) bytes)
run_ends out mid new old bytes start at below behind run escaped seen =
    let place : start + (at - start) ≡ at = omega arith in
    let whole : mid ≡ out ++ drop start (take at bytes) = run ∙ ap (λ t. out ++ t) (sym (drop-take start (at - start) bytes))
    ∙ ap (λ (n : ℕ). out ++ drop start (take n bytes)) place in
    let size = length-take-le (at + 1) bytes (omega arith) in
    ap (λ t. new ++ t) (drop_all (at + 1) (take (at + 1) bytes) (omega (arith, size))) ∙ append-nil new ∙ escaped
    ∙ printed_more mid old bytes at below (whole ∙ seen)
