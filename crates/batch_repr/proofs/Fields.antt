-- A string and an entry that are read are spelled so, and what is spelled so is read.
use Rattle.std.proofs.Common.{◌≡◌, ℕ, ◌≤◌, List, [], ◌∷◌, ◌++◌, length, take, drop, Result, Ok, Err, refl, sym, ap, ◌∙◌, arith, nat_lt, subst, inl, inr, cond, eqb, append_assoc, false}
use Rattle.std.proofs.lemmas.Bool.{le-ltb, ltb-false, eqb-true}
use Rattle.std.proofs.lemmas.List.{length-take, length-append, take-append-drop, take_at, drop_at}
use Rattle.wal_base.specs.declared.entry.Entry.{Entry}
use Rattle.wal_base.specs.declared.entry.Entry.TheVariants.{Set, Delete, Note, RangeDelete}
use Rattle.batch_repr.specs.declared.fault.BatchFault.{BatchFault}
use Rattle.batch_repr.specs.declared.fault.BatchFault.TheVariants as faults
use Rattle.batch_repr.specs.declared.fault.VarintFault.{VarintFault}
use Rattle.batch_repr.specs.declared.fault.VarintFault.TheVariants.{Ended, Wrong}
use Rattle.batch_repr.specs.Spelling.{SpellsNumber, SpellsString, SpellsEntry}
use Rattle.batch_repr.specs.declared.limits.TheConstants.{KEY_MAX, VALUE_MAX}
use Rattle.batch_repr.specs.Limits.{IsWithinLimits}
use Rattle.batch_repr.specs.Reading.{IsBytes, ◌>>=◌, number_at, text_from, string_at, set_at, delete_at, note_at, range_delete_at, entry_at, offset_of}
use Rattle.batch_repr.proofs.Tools.{bind_ok, guard_ok, chosen, ok_is, IsBytes-rest, IsBytes-back}
use Rattle.batch_repr.proofs.Varints.{number_takes, number_again}

pub record TakesString (bytes : List ℕ) (limit : ℕ) (text rest : List ℕ) : Type 0 where
  pub front : List ℕ
  pub is : SpellsString front text
  pub within : length text ≤ limit
  pub parts : bytes ≡ front ++ rest

from_text : (entry at limit : ℕ) (bytes : List ℕ) (r : Result (ℕ × List ℕ) VarintFault) (text rest : List ℕ) → IsBytes bytes → number_at bytes ≡ r
    → text_from entry at limit r ≡ Ok (text, rest) → TakesString bytes limit text rest
from_text entry at limit bytes (Err Ended) text rest fits e h = absurd cc
from_text entry at limit bytes (Err Wrong) text rest fits e h = absurd cc
from_text entry at limit bytes (Ok n) text rest fits e h =
    let a = guard_ok (nat_lt limit n.0) (faults.TooLong at) (cond (nat_lt (length n.1) n.0) (Err (faults.ShortEntry entry))
    (Ok (take n.0 n.1, drop n.0 n.1))) (text, rest) h in
    let b = guard_ok (nat_lt (length n.1) n.0) (faults.ShortEntry entry) (Ok (take n.0 n.1, drop n.0 n.1)) (text, rest) a.1 in
    let same = ok_is (take n.0 n.1, drop n.0 n.1) (text, rest) b.1 in
    let t = number_takes bytes n.0 n.1 fits e in
    let enough : n.0 ≤ length n.1 = ltb-false (length n.1) n.0 b.0 in
    let long : length (take n.0 n.1) ≡ n.0 = omega (arith, length-take n.0 n.1) in
    subst (λ (p : List ℕ × List ℕ). TakesString bytes limit p.0 p.1) same (record {
      front = t.front ++ take n.0 n.1;
      is = record { len = t.front; number = subst (λ (m : ℕ). SpellsNumber t.front m) (sym long) t.is; is = refl };
      within = omega (arith, long, ltb-false limit n.0 a.0);
      parts = t.parts ∙ ap (λ (x : List ℕ). t.front ++ x) (sym (take-append-drop n.0 n.1)) ∙ sym (append_assoc t.front (take n.0 n.1) (drop n.0 n.1));
    })

pub string_takes : (whole entry limit : ℕ) (bytes text rest : List ℕ) → IsBytes bytes → string_at whole entry limit bytes ≡ Ok (text, rest)
    → TakesString bytes limit text rest
unfolding string_at
string_takes whole entry limit bytes text rest fits e = from_text entry (offset_of whole bytes) limit bytes (number_at bytes) text rest fits refl e

pub string_again : (whole entry limit : ℕ) (front text rest : List ℕ) → SpellsString front text → length text ≤ limit
    → string_at whole entry limit (front ++ rest) ≡ Ok (text, rest)
unfolding string_at
string_again whole entry limit front text rest s within =
    let regrouped : front ++ rest ≡ s.len ++ (text ++ rest) = ap (λ (x : List ℕ). x ++ rest) s.is ∙ append_assoc s.len text rest in
    let read : number_at (front ++ rest) ≡ Ok (length text, text ++ rest) = ap number_at regrouped ∙ number_again s.len (length text) (text ++ rest) s.number in
    let long : nat_lt (length (text ++ rest)) (length text) ≡ false = le-ltb _ _ (omega (arith, length-append text rest)) in
    rw (read, le-ltb limit (length text) within, long, take_at text rest (length text) refl, drop_at text rest (length text) refl) refl

-- ---- entries

pub record TakesEntry (bytes : List ℕ) (entry : Entry) (rest : List ℕ) : Type 0 where
  pub front : List ℕ
  pub is : SpellsEntry front entry
  pub within : IsWithinLimits entry
  pub parts : bytes ≡ front ++ rest

delete_takes : (whole at : ℕ) (bytes : List ℕ) (entry : Entry) (rest : List ℕ) → IsBytes bytes → delete_at whole at bytes ≡ Ok (entry, rest)
    → TakesEntry (0 ∷ bytes) entry rest
unfolding delete_at
delete_takes whole at bytes entry rest fits e =
    let a = bind_ok (string_at whole at KEY_MAX bytes) (λ (key : List ℕ × List ℕ). Ok (Delete key.0, key.1)) (entry, rest) e in
    let key = string_takes whole at KEY_MAX bytes a.0.0 a.0.1 fits a.1 in
    subst (λ (p : Entry × List ℕ). TakesEntry (0 ∷ bytes) p.0 p.1) (ok_is (Delete a.0.0, a.0.1) (entry, rest) a.2)
    (record { front = 0 ∷ key.front; is = (key.front, key.is, refl); within = key.within; parts = ap (λ (x : List ℕ). 0 ∷ x) key.parts })

note_takes : (whole at : ℕ) (bytes : List ℕ) (entry : Entry) (rest : List ℕ) → IsBytes bytes → note_at whole at bytes ≡ Ok (entry, rest)
    → TakesEntry (3 ∷ bytes) entry rest
unfolding note_at
note_takes whole at bytes entry rest fits e =
    let a = bind_ok (string_at whole at VALUE_MAX bytes) (λ (note : List ℕ × List ℕ). Ok (Note note.0, note.1)) (entry, rest) e in
    let note = string_takes whole at VALUE_MAX bytes a.0.0 a.0.1 fits a.1 in
    subst (λ (p : Entry × List ℕ). TakesEntry (3 ∷ bytes) p.0 p.1) (ok_is (Note a.0.0, a.0.1) (entry, rest) a.2)
    (record { front = 3 ∷ note.front; is = (note.front, note.is, refl); within = note.within; parts = ap (λ (x : List ℕ). 3 ∷ x) note.parts })

set_takes : (whole at : ℕ) (bytes : List ℕ) (entry : Entry) (rest : List ℕ) → IsBytes bytes → set_at whole at bytes ≡ Ok (entry, rest)
    → TakesEntry (1 ∷ bytes) entry rest
unfolding set_at
set_takes whole at bytes entry rest fits e =
    let a = bind_ok (string_at whole at KEY_MAX bytes) (λ (key : List ℕ × List ℕ). string_at whole at VALUE_MAX key.1 >>=
    λ (value : List ℕ × List ℕ). Ok (Set key.0 value.0, value.1)) (entry, rest) e in
    let b = bind_ok (string_at whole at VALUE_MAX a.0.1) (λ (value : List ℕ × List ℕ). Ok (Set a.0.0 value.0, value.1)) (entry, rest) a.2 in
    let key = string_takes whole at KEY_MAX bytes a.0.0 a.0.1 fits a.1 in
    let more : IsBytes a.0.1 = IsBytes-back key.front a.0.1 (subst IsBytes key.parts fits) in
    let value = string_takes whole at VALUE_MAX a.0.1 b.0.0 b.0.1 more b.1 in
    subst (λ (p : Entry × List ℕ). TakesEntry (1 ∷ bytes) p.0 p.1) (ok_is (Set a.0.0 b.0.0, b.0.1) (entry, rest) b.2)
    (record {
      front = 1 ∷ key.front ++ value.front;
      is = (key.front, value.front, key.is, value.is, refl);
      within = (key.within, value.within);
      parts = ap (λ (x : List ℕ). 1 ∷ x) (key.parts ∙ ap (λ (x : List ℕ). key.front ++ x) value.parts ∙ sym (append_assoc key.front value.front b.0.1));
    })

range_delete_takes : (whole at : ℕ) (bytes : List ℕ) (entry : Entry) (rest : List ℕ) → IsBytes bytes
    → range_delete_at whole at bytes ≡ Ok (entry, rest) → TakesEntry (15 ∷ bytes) entry rest
unfolding range_delete_at
range_delete_takes whole at bytes entry rest fits e =
    let a = bind_ok (string_at whole at KEY_MAX bytes) (λ (start : List ℕ × List ℕ). string_at whole at KEY_MAX start.1 >>=
    λ (end : List ℕ × List ℕ). Ok (RangeDelete start.0 end.0, end.1)) (entry, rest) e in
    let b = bind_ok (string_at whole at KEY_MAX a.0.1) (λ (end : List ℕ × List ℕ). Ok (RangeDelete a.0.0 end.0, end.1)) (entry, rest) a.2 in
    let start = string_takes whole at KEY_MAX bytes a.0.0 a.0.1 fits a.1 in
    let more : IsBytes a.0.1 = IsBytes-back start.front a.0.1 (subst IsBytes start.parts fits) in
    let end = string_takes whole at KEY_MAX a.0.1 b.0.0 b.0.1 more b.1 in
    subst (λ (p : Entry × List ℕ). TakesEntry (15 ∷ bytes) p.0 p.1) (ok_is (RangeDelete a.0.0 b.0.0, b.0.1) (entry, rest) b.2)
    (record {
      front = 15 ∷ start.front ++ end.front;
      is = (start.front, end.front, start.is, end.is, refl);
      within = (start.within, end.within);
      parts = ap (λ (x : List ℕ). 15 ∷ x) (start.parts ∙ ap (λ (x : List ℕ). start.front ++ x) end.parts ∙ sym (append_assoc start.front end.front b.0.1));
    })

pub entry_takes : (whole : ℕ) (bytes : List ℕ) (entry : Entry) (rest : List ℕ) → IsBytes bytes → entry_at whole bytes ≡ Ok (entry, rest)
    → TakesEntry bytes entry rest
unfolding entry_at
entry_takes whole [] entry rest fits e = absurd cc
entry_takes whole (kind ∷ bytes) entry rest fits e =
    let at = offset_of whole (kind ∷ bytes) in
    let more : IsBytes bytes = IsBytes-rest kind bytes fits in
    let fourth : Result (Entry × List ℕ) BatchFault = cond (eqb kind 15) (range_delete_at whole at bytes) (Err (faults.UnknownKind at kind)) in
    let third : Result (Entry × List ℕ) BatchFault = cond (eqb kind 3) (note_at whole at bytes) fourth in
    let second : Result (Entry × List ℕ) BatchFault = cond (eqb kind 1) (set_at whole at bytes) third in
    elim (chosen (eqb kind 0) (delete_at whole at bytes) second (Ok (entry, rest)) e) [
      | inl hit ↦ subst (λ (k : ℕ). TakesEntry (k ∷ bytes) entry rest) (sym (eqb-true kind 0 hit.0)) (delete_takes whole at bytes entry rest more hit.1)
      | inr miss ↦ elim (chosen (eqb kind 1) (set_at whole at bytes) third (Ok (entry, rest)) miss.1) [
        | inl hit ↦ subst (λ (k : ℕ). TakesEntry (k ∷ bytes) entry rest) (sym (eqb-true kind 1 hit.0)) (set_takes whole at bytes entry rest more hit.1)
        | inr past ↦ elim (chosen (eqb kind 3) (note_at whole at bytes) fourth (Ok (entry, rest)) past.1) [
          | inl hit ↦ subst (λ (k : ℕ). TakesEntry (k ∷ bytes) entry rest) (sym (eqb-true kind 3 hit.0)) (note_takes whole at bytes entry rest more hit.1)
          | inr later ↦ elim (chosen (eqb kind 15) (range_delete_at whole at bytes) (Err (faults.UnknownKind at kind)) (Ok (entry, rest)) later.1) [
            | inl hit ↦ subst (λ (k : ℕ). TakesEntry (k ∷ bytes) entry rest) (sym (eqb-true kind 15 hit.0))
                (range_delete_takes whole at bytes entry rest more hit.1)
            | inr last ↦ absurd cc
          ]
        ]
      ]
    ]

pub entry_again : (whole : ℕ) (front : List ℕ) (entry : Entry) (rest : List ℕ) → SpellsEntry front entry → IsWithinLimits entry
    → entry_at whole (front ++ rest) ≡ Ok (entry, rest)
unfolding entry_at set_at delete_at note_at range_delete_at
entry_again whole front (Set key value) rest s within =
    let tail : List ℕ = s.0 ++ (s.1 ++ rest) in
    let regrouped : front ++ rest ≡ 1 ∷ tail = ap (λ (x : List ℕ). x ++ rest) s.4 ∙ ap (λ (x : List ℕ). 1 ∷ x) (append_assoc s.0 s.1 rest) in
    let at = offset_of whole (1 ∷ tail) in
    ap (entry_at whole) regrouped ∙ rw (
      string_again whole at KEY_MAX s.0 key (s.1 ++ rest) s.2 within.0,
      string_again whole at VALUE_MAX s.1 value rest s.3 within.1,
    ) refl
entry_again whole front (Delete key) rest s within =
    let regrouped : front ++ rest ≡ 0 ∷ (s.0 ++ rest) = ap (λ (x : List ℕ). x ++ rest) s.2 in
    ap (entry_at whole) regrouped ∙ rw (string_again whole (offset_of whole (0 ∷ (s.0 ++ rest))) KEY_MAX s.0 key rest s.1 within) refl
entry_again whole front (Note note) rest s within =
    let regrouped : front ++ rest ≡ 3 ∷ (s.0 ++ rest) = ap (λ (x : List ℕ). x ++ rest) s.2 in
    ap (entry_at whole) regrouped ∙ rw (string_again whole (offset_of whole (3 ∷ (s.0 ++ rest))) VALUE_MAX s.0 note rest s.1 within) refl
entry_again whole front (RangeDelete start end) rest s within =
    let tail : List ℕ = s.0 ++ (s.1 ++ rest) in
    let regrouped : front ++ rest ≡ 15 ∷ tail = ap (λ (x : List ℕ). x ++ rest) s.4 ∙ ap (λ (x : List ℕ). 15 ∷ x) (append_assoc s.0 s.1 rest) in
    let at = offset_of whole (15 ∷ tail) in
    ap (entry_at whole) regrouped ∙ rw (
      string_again whole at KEY_MAX s.0 start (s.1 ++ rest) s.2 within.0,
      string_again whole at KEY_MAX s.1 end rest s.3 within.1,
    ) refl
