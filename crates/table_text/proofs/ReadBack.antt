-- Batches that are read of records, one after another.
use Rattle.std.proofs.Common.{◌≡◌, ℕ, ◌+◌, ◌<◌, List, [], ◌∷◌, ◌++◌, length, map, take, get_or, Some, refl, sym, ap, ◌∙◌, arith, length-append}
use Rattle.std.specs.List.{All}
use Rattle.std.proofs.lemmas.List.{take_more, map-append, length-map}
use Rattle.std.proofs.lemmas.List.Elements.{All-get_or, All-pop}
use Rattle.std.proofs.lemmas.List.{get_or-map}
use Rattle.batch_repr.specs.declared.batch.Batch.{Batch}
use Rattle.batch_repr.specs.Written.{written}
use Rattle.block_record.specs.declared.records.Rec.{Rec}
use Rattle.block_record.specs.ReadOut.{bytes_of}
use Rattle.table_text.specs.Reading.{IsReadBack, ReadsMore, ReadsBack}
use Rattle.table_text.proofs.Rows.{ends_as}

pub read_none : (reader : List Batch) → reader ≡ [] → ReadsBack [] reader
read_none reader is = record { count = ap length is; only = λ others all e. is ∙ none others e }
  where
    none : (others : List Batch) → [] ≡ map written others → [] ≡ others
    none [] e = refl
    none (x ∷ others) e = absurd cc

no_batch : Batch
no_batch = record { first = 0; entries = [] }

-- where one record is what is written for no batch, they are not what is written for some
pub none_more : (records : List Rec) (i : ℕ) (item : Rec) → i < length records → item ≡ get_or records i item
    → ((batch : Batch) → IsReadBack batch → ¬ (item.bytes ≡ written batch))
    → (others : List Batch) → All IsReadBack others → ¬ (bytes_of records ≡ map written others)
none_more records i item below is none others all e =
    let long : length others ≡ length records =
    sym (length-map others written) ∙ sym (ap length e) ∙ length-map records (λ (r : Rec). r.bytes) in
    let within : i < length others = omega (arith, long) in
    let same : item.bytes ≡ written (get_or others i no_batch) =
    ap (λ (r : Rec). r.bytes) is ∙ sym (get_or-map (λ (r : Rec). r.bytes) records i item item.bytes below)
    ∙ ap (λ (l : List (List ℕ)). get_or l i item.bytes) e ∙ get_or-map written others i no_batch item.bytes within in
    none (get_or others i no_batch) (All-get_or IsReadBack others i no_batch within all) same

pub bytes_more : (records : List Rec) (i : ℕ) (item : Rec) → i < length records → item ≡ get_or records i item
    → bytes_of (take (i + 1) records) ≡ bytes_of (take i records) ++ item.bytes ∷ []
bytes_more records i item below is =
    ap bytes_of (take_more records i item below ∙ ap (λ (r : Rec). take i records ++ r ∷ []) (sym is))
    ∙ map-append (λ (r : Rec). r.bytes) (take i records) (item ∷ [])

pub read_more : (records : List Rec) (i : ℕ) (item : Rec) (old new : List Batch) → i < length records → item ≡ get_or records i item
    → ReadsBack (bytes_of (take i records)) old → ReadsMore item.bytes old new → ReadsBack (bytes_of (take (i + 1) records)) new
read_more records i item old new below is so_far more = record {
  count = omega (arith, more.count, so_far.count, ap length (bytes_more records i item below is), length-append (bytes_of (take i records)) (item.bytes ∷ []));
  only = λ others all e. only others all e;
}
  where
    only : (others : List Batch) → All IsReadBack others → bytes_of (take (i + 1) records) ≡ map written others → new ≡ others
    only others all e =
        let parts = ends_as written others (bytes_of (take i records)) item.bytes (sym e ∙ bytes_more records i item below is) in
        let each = All-pop IsReadBack others parts.front (Some parts.last) parts.is all in
        more.only parts.last each.1 (sym parts.last_is) ∙ ap (λ (bs : List Batch). bs ++ parts.last ∷ []) (so_far.only parts.front each.0 (sym parts.front_is))
        ∙ sym parts.is
