-- The keys and values of batches one after the other: how they grow, how long they are, and where those of a batch stand.
use Rattle.std.proofs.Common.{◌≡◌, ℕ, zero, suc, ◌+◌, ◌-◌, ◌*◌, ◌<◌, ◌≤◌, List, [], ◌++◌, length, take, drop, refl, sym, ap, ◌∙◌, arith, append_assoc, append-nil, drop-drop}
use Rattle.std.specs.Prelude.{slice_range}
use Rattle.std.specs.List.{repeat, flat_map, range_with_len}
use Rattle.std.proofs.lemmas.List.{length-append, take_at, drop_at}
use Rattle.made_load.proofs.LoadEntries.{length-load_key, length-load_value}
use Rattle.made_load.specs.declared.every_nth.EveryNth.{EveryNth}
use Rattle.made_load.specs.Load.{word_of_number, load_number, load_key, load_value, key_and_value}
use Rattle.made_load.specs.EveryNth.{nth_number, key_at, value_at, texts_before, texts_of}

length-key_and_value : (seed i : ℕ) → length (key_and_value seed i) ≡ 69
length-key_and_value seed i =
    omega (arith, length-append (load_key i) (load_value seed i), length-load_key i, length-load_value seed i)

-- a key, and four times the word of a number
pub text_put : (seed i k : ℕ) (front word text : List ℕ) → k ≡ 4 → word ≡ word_of_number (load_number seed i)
    → text ≡ (front ++ load_key i) ++ repeat k word → text ≡ front ++ key_and_value seed i
unfolding load_value
text_put seed i k front word text four is put =
    put
    ∙ ap (λ (n : ℕ). (front ++ load_key i) ++ repeat n word) four
    ∙ ap (λ (w : List ℕ). (front ++ load_key i) ++ repeat 4 w) is
    ∙ append_assoc front (load_key i) (load_value seed i)

module _ (b : EveryNth) where
  -- those of the batch at a place
  abbrev own : ℕ → List ℕ
  own place = key_and_value b.seed (nth_number b place)

  -- those of so many from a place on
  abbrev texts_from : ℕ → ℕ → List ℕ
  texts_from place n = flat_map own (range_with_len place n)

  length-texts_from : (place n : ℕ) → length (texts_from place n) ≡ 69 * n
  length-texts_from place zero = refl
  length-texts_from place (suc n) =
      omega (
        arith,
        length-append (own place) (texts_from (place + 1) n),
        length-key_and_value b.seed (nth_number b place),
        length-texts_from (place + 1) n,
      )

  -- ---- as they are put

  pub texts_begin : (text : List ℕ) → text ≡ [] → text ≡ texts_before b 0
  unfolding texts_before
  texts_begin text is = is

  grown : (place n j : ℕ) → place + n ≡ j → texts_from place n ++ own j ≡ texts_from place (suc n)
  grown place zero j is = let same : j ≡ place = omega arith in ap own same ∙ sym (append-nil (own place))
  grown place (suc n) j is =
      append_assoc (own place) (texts_from (place + 1) n) (own j)
      ∙ ap (λ (t : List ℕ). own place ++ t) (grown (place + 1) n j (omega arith))

  -- Those of one batch more.
  pub texts_more : (place index : ℕ) (text more : List ℕ) → index ≡ nth_number b place → text ≡ texts_before b place
      → more ≡ text ++ key_and_value b.seed index → more ≡ texts_before b (place + 1)
  unfolding texts_before
  texts_more place index text more this is are =
      let next : place + 1 ≡ suc place = omega arith in
      rw next (are ∙ ap (λ (t : List ℕ). t ++ key_and_value b.seed index) is
      ∙ ap (λ (i : ℕ). texts_from 0 place ++ key_and_value b.seed i) this
      ∙ grown 0 place place (omega arith))

  -- ---- where they stand

  -- Those at a place begin there.
  from_place : (i n k j : ℕ) → k < n → i + k ≡ j → drop (69 * k) (texts_from i n) ≡ own j ++ texts_from (j + 1) (n - (k + 1))
  from_place i zero k j lt is = absurd (omega arith)
  from_place i (suc n) zero j lt is =
      let same : i ≡ j = omega arith in
      let rest : n ≡ suc n - (0 + 1) = omega arith in
      ap (λ (m : ℕ). own m ++ texts_from (m + 1) n) same ∙ ap (λ (m : ℕ). own j ++ texts_from (j + 1) m) rest
  from_place i (suc n) (suc k) j lt is =
      let further : 69 * suc k ≡ 69 + 69 * k = omega arith in
      let rest : n - (k + 1) ≡ suc n - (suc k + 1) = omega arith in
      ap (λ (m : ℕ). drop m (texts_from i (suc n))) further
      ∙ sym (drop-drop (69 * k) 69 (texts_from i (suc n)))
      ∙ ap (drop (69 * k)) (drop_at (own i) (texts_from (i + 1) n) 69 (length-key_and_value b.seed (nth_number b i)))
      ∙ from_place (i + 1) n k j (omega arith) (omega arith)
      ∙ ap (λ (m : ℕ). own j ++ texts_from (j + 1) m) rest

  -- its key, its value, and what follows them
  opened : (place start : ℕ) (text : List ℕ) → text ≡ texts_of b → place < b.count → start ≡ 69 * place
      → drop start text ≡ key_at b place ++ (value_at b place ++ texts_from (place + 1) (b.count - (place + 1)))
  unfolding texts_before
  opened place start text is lt at =
      ap (λ (m : ℕ). drop m text) at ∙ ap (drop (69 * place)) is
      ∙ from_place 0 b.count place place lt (omega arith)
      ∙ append_assoc (key_at b place) (value_at b place) (texts_from (place + 1) (b.count - (place + 1)))

  pub key_stands : (place start : ℕ) (text : List ℕ) → text ≡ texts_of b → place < b.count → start ≡ 69 * place
      → slice_range text start (start + 5) ≡ key_at b place
  key_stands place start text is lt at =
      let rest = value_at b place ++ texts_from (place + 1) (b.count - (place + 1)) in
      let five : start + 5 - start ≡ 5 = omega arith in
      rw five (ap (take 5) (opened place start text is lt at) ∙ take_at (key_at b place) rest 5 (length-load_key (nth_number b place)))

  pub value_stands : (place start : ℕ) (text : List ℕ) → text ≡ texts_of b → place < b.count → start ≡ 69 * place
      → slice_range text (start + 5) (start + 69) ≡ value_at b place
  value_stands place start text is lt at =
      let after = texts_from (place + 1) (b.count - (place + 1)) in
      let wide : start + 69 - (start + 5) ≡ 64 = omega arith in
      rw wide (ap (take 64)
      (sym (drop-drop 5 start text) ∙ ap (drop 5) (opened place start text is lt at)
      ∙ drop_at (key_at b place) (value_at b place ++ after) 5 (length-load_key (nth_number b place)))
      ∙ take_at (value_at b place) after 64 (length-load_value b.seed (nth_number b place)))

  -- A batch's key and value end within them.
  pub within_texts : (place start : ℕ) (text : List ℕ) → text ≡ texts_of b → place < b.count → start ≡ 69 * place → start + 69 ≤ length text
  unfolding texts_before
  within_texts place start text is lt at = omega (arith, ap length is, length-texts_from 0 b.count)
