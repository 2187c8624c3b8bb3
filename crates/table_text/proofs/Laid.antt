-- Records that a framer lays into a text, one after another.
use Rattle.crc_chunk.specs.declared.chunk.TheConstants.{BLOCK}
use Rattle.std.proofs.Common.{◌≡◌, ℕ, ◌+◌, ◌%◌, List, [], ◌∷◌, ◌++◌, length, map, sym, ap, ◌∙◌, arith, length-append}
use Rattle.std.proofs.lemmas.List.{map-append}
use Rattle.block_record.specs.Framing.{Standing, Marked, framed, laid, standing_after}
use Rattle.block_record.specs.Promises.{framed_by}
use Rattle.block_record.proofs.Laws.{one_more}
use Rattle.table_text.specs.Tables.{unsynced}
use Rattle.table_text.specs.Writing.{HasLaid}

turned : (m n : ℕ) → (m % 32768 + n) % 32768 ≡ (m + n) % 32768
turned m n = omega arith

pub lays_more : (log : ℕ) (records : List (List ℕ)) (old : Standing) (text bytes : List ℕ) → HasLaid log records old text
    → HasLaid log (records ++ bytes ∷ []) (standing_after old (framed_by old 0 bytes)) (text ++ framed_by old 0 bytes)
lays_more log records old text bytes has = record {
  log_is = has.log_is;
  place_is = ap (λ (n : ℕ). (n + length (framed_by old 0 bytes)) % BLOCK) has.place_is ∙ turned (length text) (length (framed_by old 0 bytes))
      ∙ ap (λ (n : ℕ). n % BLOCK) (sym (length-append text (framed_by old 0 bytes)));
  text_is = ap (λ (t : List ℕ). t ++ framed_by old 0 bytes) has.text_is ∙ ap (λ (t : List ℕ). laid log 0 marked ++ t) same
      ∙ sym (one_more log marked (unsynced bytes)) ∙ ap (laid log 0) (sym (map-append unsynced records (bytes ∷ [])));
}
  where
    marked : List Marked
    marked = map unsynced records

    same : framed_by old 0 bytes ≡ framed log (length (laid log 0 marked) % BLOCK) 0 bytes
    same = ap (λ (n : ℕ). framed n old.place 0 bytes) has.log_is
        ∙ ap (λ (n : ℕ). framed log n 0 bytes) (has.place_is ∙ ap (λ (t : List ℕ). length t % BLOCK) has.text_is)

-- a new framer has laid nothing
pub lays_none : (log : ℕ) (standing : Standing) (text : List ℕ) → standing ≡ record { log = log; place = 0 } → text ≡ [] → HasLaid log [] standing text
lays_none log standing text is none = record {
  log_is = ap (λ (s : Standing). s.log) is;
  place_is = ap (λ (s : Standing). s.place) is ∙ sym (ap (λ (t : List ℕ). length t % BLOCK) none);
  text_is = none;
}
