-- Reading and spelling agree, and there is one answer.
use Rattle.std.proofs.Common.{◌≡◌, ◌≢◌, ℕ, ◌+◌, ◌^◌, ◌<◌, ◌≤◌, List, [], ◌∷◌, ◌++◌, length, take, drop, Result, Ok, Err, refl, sym, ap, ◌∙◌, arith, subst, append_assoc, inl, inr}
use Rattle.std.proofs.lemmas.Bool.{cases_lt}
use Rattle.std.proofs.lemmas.List.Sums.{count_by-le-length}
use Rattle.std.specs.List.{AllByRecursion}
use Rattle.std.specs.Int.{w32, w64, to_le_bytes}
use Rattle.std.proofs.lemmas.List.{append-nil, length-append, length-take, length-drop, drop_at, take-append-drop, drop-drop, get_or-take, get_or_past}
use Rattle.std.proofs.lemmas.List.Elements.{All-from_recursion, recursion_from_All}
use Rattle.std.proofs.lemmas.Nat.{le_bytes_4, le_bytes_8, from_le_bytes-to_le_bytes_4, from_le_bytes-to_le_bytes_8}
use Rattle.std.specs.Prelude.{MatchResult, IfOk, OnOk}
use Rattle.wal_base.specs.declared.entry.Entry.{Entry}
use Rattle.wal_base.specs.declared.entry.Entry.TheVariants.{Set, Delete, Note, RangeDelete}
use Rattle.batch_repr.specs.declared.batch.Batch.{Batch}
use Rattle.batch_repr.specs.declared.fault.BatchFault.{BatchFault}
use Rattle.batch_repr.specs.declared.fault.BatchFault.TheVariants as faults
use Rattle.batch_repr.specs.Batches.{count_of, is_counted}
use Rattle.batch_repr.specs.Spelling.{SpellsEntry, SpellsEntries, SpellsBatch}
use Rattle.batch_repr.specs.declared.limits.TheConstants.{NUMBER_MAX}
use Rattle.batch_repr.specs.Limits.{IsWithinLimits}
use Rattle.batch_repr.specs.Reading.{IsBytes, entry_at, EntriesAt, IsFirstFault, ReadsAs, first_said, count_said}
use Rattle.batch_repr.specs.Returned.{MemoryOr, OkOrMemory, ErrOrMemory}
use Rattle.batch_repr.specs.Reading.IsFirstFault.{too_long, short_header, in_entry, other_count, past_numbers}
use Rattle.batch_repr.proofs.Tools.{IsBytes-drop, IsBytes-back, ok_is}
use Rattle.batch_repr.proofs.Fields.{entry_takes, entry_again}

-- ---- reading is spelling

pub record TakesEntries (bytes : List ℕ) (entries : List Entry) (rest : List ℕ) : Type 0 where
  pub front : List ℕ
  pub is : SpellsEntries front entries
  pub within : AllByRecursion IsWithinLimits entries
  pub parts : bytes ≡ front ++ rest

pub entries_take : (whole : ℕ) (bytes : List ℕ) (entries : List Entry) (rest : List ℕ) → IsBytes bytes → EntriesAt whole bytes entries rest
    → TakesEntries bytes entries rest
entries_take whole bytes [] rest fits h = record { front = []; is = refl; within = tt; parts = h }
entries_take whole bytes (entry ∷ entries) rest fits h =
    let first = entry_takes whole bytes entry h.0 fits h.1 in
    let others = entries_take whole h.0 entries rest (IsBytes-back first.front h.0 (subst IsBytes first.parts fits)) h.2 in
    record {
      front = first.front ++ others.front;
      is = (first.front, others.front, first.is, others.is, refl);
      within = (first.within, others.within);
      parts = first.parts ∙ ap (λ (x : List ℕ). first.front ++ x) others.parts ∙ sym (append_assoc first.front others.front rest);
    }

pub entries_again : (whole : ℕ) (front : List ℕ) (entries : List Entry) (rest : List ℕ) → SpellsEntries front entries
    → AllByRecursion IsWithinLimits entries → EntriesAt whole (front ++ rest) entries rest
entries_again whole front [] rest s within = ap (λ (x : List ℕ). x ++ rest) s
entries_again whole front (entry ∷ entries) rest s within = (
  s.1 ++ rest,
  ap (λ (x : List ℕ). entry_at whole (x ++ rest)) s.4 ∙ ap (entry_at whole) (append_assoc s.0 s.1 rest)
      ∙ entry_again whole s.0 entry (s.1 ++ rest) s.2 within.0,
  entries_again whole s.1 entries rest s.3 within.1,
)

-- ---- one reading

same_step : (whole : ℕ) (bytes : List ℕ) (x y : Entry × List ℕ) → entry_at whole bytes ≡ Ok x → entry_at whole bytes ≡ Ok y → x ≡ y
same_step whole bytes x y p q = ok_is x y (sym p ∙ q)

none_left : (whole : ℕ) (bytes : List ℕ) (x : Entry × List ℕ) → bytes ≡ [] → entry_at whole bytes ≡ Ok x → ⊥
unfolding entry_at
none_left whole bytes x e p = let q = sym (ap (entry_at whole) e) ∙ p in absurd (cc q)

pub same_entries : (whole : ℕ) (bytes : List ℕ) (xs ys : List Entry) → EntriesAt whole bytes xs [] → EntriesAt whole bytes ys [] → xs ≡ ys
same_entries whole bytes [] [] p q = refl
same_entries whole bytes [] (y ∷ ys) p q = absurd (none_left whole bytes (y, q.0) p q.1)
same_entries whole bytes (x ∷ xs) [] p q = absurd (none_left whole bytes (x, p.0) q p.1)
same_entries whole bytes (x ∷ xs) (y ∷ ys) p q =
    let same = same_step whole bytes (x, p.0) (y, q.0) p.1 q.1 in
    let after : p.0 ≡ q.0 = ap (λ (t : Entry × List ℕ). t.1) same in
    let others = same_entries whole q.0 xs ys (subst (λ (t : List ℕ). EntriesAt whole t xs []) after p.2) q.2 in
    ap (λ (t : Entry). t ∷ xs) (ap (λ (t : Entry × List ℕ). t.0) same) ∙ ap (λ (t : List Entry). y ∷ t) others

faulty : (whole : ℕ) (bytes : List ℕ) (x : Entry × List ℕ) (f : BatchFault) → entry_at whole bytes ≡ Ok x → entry_at whole bytes ≡ Err f → ⊥
faulty whole bytes x f p q = cc

pub no_fault : (whole : ℕ) (bytes : List ℕ) (xs ys : List Entry) (rest : List ℕ) (f : BatchFault) → EntriesAt whole bytes xs []
    → EntriesAt whole bytes ys rest → rest ≢ [] → entry_at whole rest ≡ Err f → ⊥
no_fault whole bytes [] [] rest f p q some e = some (sym q ∙ p)
no_fault whole bytes [] (y ∷ ys) rest f p q some e = none_left whole bytes (y, q.0) p q.1
no_fault whole bytes (x ∷ xs) [] rest f p q some e = faulty whole bytes (x, p.0) f p.1 (ap (entry_at whole) q ∙ e)
no_fault whole bytes (x ∷ xs) (y ∷ ys) rest f p q some e =
    let after : p.0 ≡ q.0 = ap (λ (t : Entry × List ℕ). t.1) (same_step whole bytes (x, p.0) (y, q.0) p.1 q.1) in
    no_fault whole q.0 xs ys rest f (subst (λ (t : List ℕ). EntriesAt whole t xs []) after p.2) q.2 some e

pub same_fault : (whole : ℕ) (bytes : List ℕ) (xs ys : List Entry) (r s : List ℕ) (f g : BatchFault) → EntriesAt whole bytes xs r
    → entry_at whole r ≡ Err f → EntriesAt whole bytes ys s → entry_at whole s ≡ Err g → f ≡ g
same_fault whole bytes [] [] r s f g p e q d = let same = sym p ∙ q in let h = sym e ∙ ap (entry_at whole) same ∙ d in (cc h)
same_fault whole bytes [] (y ∷ ys) r s f g p e q d = absurd (faulty whole bytes (y, q.0) f q.1 (ap (entry_at whole) p ∙ e))
same_fault whole bytes (x ∷ xs) [] r s f g p e q d = absurd (faulty whole bytes (x, p.0) g p.1 (ap (entry_at whole) q ∙ d))
same_fault whole bytes (x ∷ xs) (y ∷ ys) r s f g p e q d =
    let after : p.0 ≡ q.0 = ap (λ (t : Entry × List ℕ). t.1) (same_step whole bytes (x, p.0) (y, q.0) p.1 q.1) in
    same_fault whole q.0 xs ys r s f g (subst (λ (t : List ℕ). EntriesAt whole t xs r) after p.2) e q.2 d

-- ---- the header

IsBytes-take : (n : ℕ) (bytes : List ℕ) → IsBytes bytes → IsBytes (take n bytes)
IsBytes-take n bytes h i =
    elim (cases_lt i n) [
      | inl lt ↦ rw (get_or-take n bytes i 0 lt) (h i)
      | inr le ↦ rw (get_or_past (take n bytes) i 0 (omega (arith, length-take n bytes))) (omega arith)
    ]

pub reads_spell : (bytes : List ℕ) (batch : Batch) → IsBytes bytes → ReadsAs bytes batch → SpellsBatch bytes batch
reads_spell bytes batch fits r =
    let taken = entries_take (length bytes) (drop 12 bytes) batch.entries [] (IsBytes-drop 12 bytes fits) r.splits.entries_are in
    let body : drop 12 bytes ≡ taken.front = taken.parts ∙ append-nil taken.front in
    let n : ℕ = count_of batch.entries in
    let head : to_le_bytes w64 batch.first ≡ take 8 bytes =
    le_bytes_8 (take 8 bytes) batch.first (omega (arith, length-take 8 bytes, r.splits.header)) (IsBytes-take 8 bytes fits) r.first in
    let said : to_le_bytes w32 n ≡ take 4 (drop 8 bytes) =
    le_bytes_4 (take 4 (drop 8 bytes)) n (omega (arith, length-take 4 (drop 8 bytes), length-drop 8 bytes, r.splits.header))
    (IsBytes-take 4 (drop 8 bytes) (IsBytes-drop 8 bytes fits)) (sym r.count) in
    let after : drop 8 bytes ≡ take 4 (drop 8 bytes) ++ drop 12 bytes = sym (take-append-drop 4 (drop 8 bytes))
    ∙ ap (λ (x : List ℕ). take 4 (drop 8 bytes) ++ x) (drop-drop 4 8 bytes) in
    let whole : bytes ≡ take 8 bytes ++ (take 4 (drop 8 bytes) ++ drop 12 bytes) = sym (take-append-drop 8 bytes)
    ∙ ap (λ (x : List ℕ). take 8 bytes ++ x) after in
    record {
      body = taken.front;
      is = whole ∙ sym (append_assoc (take 8 bytes) (take 4 (drop 8 bytes)) (drop 12 bytes))
          ∙ ap (λ (x : List ℕ). (take 8 bytes ++ take 4 (drop 8 bytes)) ++ x) body
          ∙ ap (λ (x : List ℕ). (x ++ take 4 (drop 8 bytes)) ++ taken.front) (sym head)
          ∙ ap (λ (x : List ℕ). (to_le_bytes w64 batch.first ++ x) ++ taken.front) (sym said);
      entries = taken.is;
      limits = All-from_recursion IsWithinLimits batch.entries taken.within;
      size = r.splits.size;
      numbers = r.numbers;
    }

entry_some : (bytes : List ℕ) (entry : Entry) → SpellsEntry bytes entry → 0 < length bytes
entry_some bytes (Set key value) s = omega (arith, ap length s.4)
entry_some bytes (Delete key) s = omega (arith, ap length s.2)
entry_some bytes (Note note) s = omega (arith, ap length s.2)
entry_some bytes (RangeDelete start end) s = omega (arith, ap length s.4)

-- each entry takes a byte
entries_few : (bytes : List ℕ) (entries : List Entry) → SpellsEntries bytes entries → length entries ≤ length bytes
entries_few bytes [] s = omega arith
entries_few bytes (entry ∷ entries) s = omega (arith, entry_some s.0 entry s.2, entries_few s.1 entries s.3, ap length s.4, length-append s.0 s.1)

few : (bytes : List ℕ) (batch : Batch) → SpellsBatch bytes batch → count_of batch.entries < 2 ^ 32
few bytes batch s =
    let header : List ℕ = to_le_bytes w64 batch.first ++ to_le_bytes w32 (count_of batch.entries) in
    omega (arith, s.size, ap length s.is, length-append header s.body, entries_few s.body batch.entries s.entries, count_by-le-length is_counted batch.entries)

pub spelled_reads : (bytes : List ℕ) (batch : Batch) → SpellsBatch bytes batch → ReadsAs bytes batch
spelled_reads bytes batch s =
    let n : ℕ = count_of batch.entries in
    let header : List ℕ = to_le_bytes w64 batch.first ++ to_le_bytes w32 n in
    let below : batch.first + n ≤ NUMBER_MAX = s.numbers in
    let rest : drop 12 bytes ≡ s.body = ap (drop 12) s.is ∙ drop_at header s.body 12 refl in
    record {
      splits = record {
        size = s.size;
        header = omega (arith, ap length s.is);
        entries_are = subst (λ (x : List ℕ). EntriesAt (length bytes) x batch.entries []) (append-nil s.body ∙ sym rest)
            (entries_again (length bytes) s.body batch.entries [] s.entries (recursion_from_All IsWithinLimits batch.entries s.limits));
      };
      first = sym (ap first_said s.is ∙ from_le_bytes-to_le_bytes_8 batch.first (omega arith));
      count = ap count_said s.is ∙ from_le_bytes-to_le_bytes_4 n (omega (arith, few bytes batch s));
      numbers = s.numbers;
    }

pub same_batch : (bytes : List ℕ) (b c : Batch) → ReadsAs bytes b → ReadsAs bytes c → b ≡ c
same_batch bytes b c p q =
    let entries : b.entries ≡ c.entries = same_entries (length bytes) (drop 12 bytes) b.entries c.entries p.splits.entries_are q.splits.entries_are in
    let first : b.first ≡ c.first = p.first ∙ sym q.first in
    ap (λ (n : ℕ). record { first = n; entries = b.entries }) first ∙ ap (λ (x : List Entry). record { first = c.first; entries = x }) entries

pub reads_no_fault : (bytes : List ℕ) (batch : Batch) (fault : BatchFault) → ReadsAs bytes batch → IsFirstFault bytes fault → ⊥
reads_no_fault bytes batch _ r (too_long h) = omega (arith, r.splits.size, h)
reads_no_fault bytes batch _ r (short_header h) = omega (arith, r.splits.header, h)
reads_no_fault bytes batch fault r (in_entry _ h) =
    no_fault (length bytes) (drop 12 bytes) batch.entries h.before h.rest fault r.splits.entries_are h.splits.entries_are h.some h.fault_is
reads_no_fault bytes batch _ r (other_count entries splits ne) =
    ne (r.count ∙ ap count_of (same_entries (length bytes) (drop 12 bytes) batch.entries entries r.splits.entries_are splits.entries_are))
reads_no_fault bytes batch _ r (past_numbers entries splits same past) =
    let one = ap count_of (same_entries (length bytes) (drop 12 bytes) batch.entries entries r.splits.entries_are splits.entries_are) in
    omega (arith, r.numbers, r.first, past, one)

pub one_fault : (bytes : List ℕ) (f g : BatchFault) → IsFirstFault bytes f → IsFirstFault bytes g → f ≡ g
one_fault bytes _ _ (too_long h) (too_long k) = refl
one_fault bytes _ _ (too_long h) (short_header k) = absurd (omega arith)
one_fault bytes _ g (too_long h) (in_entry _ k) = absurd (omega (arith, k.splits.size))
one_fault bytes _ _ (too_long h) (other_count xs k _) = absurd (omega (arith, k.size))
one_fault bytes _ _ (too_long h) (past_numbers xs k _ _) = absurd (omega (arith, k.size))
one_fault bytes _ _ (short_header h) (too_long k) = absurd (omega arith)
one_fault bytes _ _ (short_header h) (short_header k) = refl
one_fault bytes _ g (short_header h) (in_entry _ k) = absurd (omega (arith, k.splits.header))
one_fault bytes _ _ (short_header h) (other_count xs k _) = absurd (omega (arith, k.header))
one_fault bytes _ _ (short_header h) (past_numbers xs k _ _) = absurd (omega (arith, k.header))
one_fault bytes f _ (in_entry _ h) (too_long k) = absurd (omega (arith, h.splits.size))
one_fault bytes f _ (in_entry _ h) (short_header k) = absurd (omega (arith, h.splits.header))
one_fault bytes f g (in_entry _ h) (in_entry _ k) =
    same_fault (length bytes) (drop 12 bytes) h.before k.before h.rest k.rest f g h.splits.entries_are h.fault_is k.splits.entries_are k.fault_is
one_fault bytes f _ (in_entry _ h) (other_count xs k _) =
    absurd (no_fault (length bytes) (drop 12 bytes) xs h.before h.rest f k.entries_are h.splits.entries_are h.some h.fault_is)
one_fault bytes f _ (in_entry _ h) (past_numbers xs k _ _) =
    absurd (no_fault (length bytes) (drop 12 bytes) xs h.before h.rest f k.entries_are h.splits.entries_are h.some h.fault_is)
one_fault bytes _ _ (other_count xs h _) (too_long k) = absurd (omega (arith, h.size))
one_fault bytes _ _ (other_count xs h _) (short_header k) = absurd (omega (arith, h.header))
one_fault bytes _ g (other_count xs h _) (in_entry _ k) =
    absurd (no_fault (length bytes) (drop 12 bytes) xs k.before k.rest g h.entries_are k.splits.entries_are k.some k.fault_is)
one_fault bytes _ _ (other_count xs h _) (other_count ys k _) =
    ap (λ (es : List Entry). faults.Count (count_said bytes) (count_of es)) (same_entries (length bytes) (drop 12 bytes) xs ys h.entries_are k.entries_are)
one_fault bytes _ _ (other_count xs h ne) (past_numbers ys k same _) =
    absurd (ne (same ∙ ap count_of (same_entries (length bytes) (drop 12 bytes) ys xs k.entries_are h.entries_are)))
one_fault bytes _ _ (past_numbers xs h _ _) (too_long k) = absurd (omega (arith, h.size))
one_fault bytes _ _ (past_numbers xs h _ _) (short_header k) = absurd (omega (arith, h.header))
one_fault bytes _ g (past_numbers xs h _ _) (in_entry _ k) =
    absurd (no_fault (length bytes) (drop 12 bytes) xs k.before k.rest g h.entries_are k.splits.entries_are k.some k.fault_is)
one_fault bytes _ _ (past_numbers xs h same _) (other_count ys k ne) =
    absurd (ne (same ∙ ap count_of (same_entries (length bytes) (drop 12 bytes) xs ys h.entries_are k.entries_are)))
one_fault bytes _ _ (past_numbers xs h _ _) (past_numbers ys k _ _) = refl

-- ---- what the call answers

pub is_found : (bytes : List ℕ) (r : Result Batch BatchFault) → OnOk r (IsBytes bytes)
    → MatchResult r (ReadsAs bytes) (MemoryOr (IsFirstFault bytes)) → IfOk r (SpellsBatch bytes)
is_found bytes (Ok batch) fits h = reads_spell bytes batch fits h
is_found bytes (Err fault) fits h = tt

pub is_only : (bytes : List ℕ) (r : Result Batch BatchFault) (batch : Batch) → MatchResult r (ReadsAs bytes) (MemoryOr (IsFirstFault bytes))
    → SpellsBatch bytes batch → OkOrMemory r batch
is_only bytes (Ok other) batch h s = same_batch bytes other batch h (spelled_reads bytes batch s)
is_only bytes (Err faults.NoMemory) batch h s = tt
is_only bytes (Err faults.ShortHeader) batch h s = reads_no_fault bytes batch _ (spelled_reads bytes batch s) h
is_only bytes (Err (faults.ShortEntry at)) batch h s = reads_no_fault bytes batch _ (spelled_reads bytes batch s) h
is_only bytes (Err (faults.BadVarint at)) batch h s = reads_no_fault bytes batch _ (spelled_reads bytes batch s) h
is_only bytes (Err (faults.TooLong at)) batch h s = reads_no_fault bytes batch _ (spelled_reads bytes batch s) h
is_only bytes (Err (faults.UnknownKind at kind)) batch h s = reads_no_fault bytes batch _ (spelled_reads bytes batch s) h
is_only bytes (Err (faults.Count said found)) batch h s = reads_no_fault bytes batch _ (spelled_reads bytes batch s) h
is_only bytes (Err (faults.SeqRange first)) batch h s = reads_no_fault bytes batch _ (spelled_reads bytes batch s) h

pub is_first : (bytes : List ℕ) (r : Result Batch BatchFault) (fault : BatchFault)
    → MatchResult r (ReadsAs bytes) (MemoryOr (IsFirstFault bytes)) → IsFirstFault bytes fault → ErrOrMemory r fault
is_first bytes (Ok batch) fault h f = reads_no_fault bytes batch fault h f
is_first bytes (Err faults.NoMemory) fault h f = tt
is_first bytes (Err faults.ShortHeader) fault h f = one_fault bytes _ fault h f
is_first bytes (Err (faults.ShortEntry at)) fault h f = one_fault bytes _ fault h f
is_first bytes (Err (faults.BadVarint at)) fault h f = one_fault bytes _ fault h f
is_first bytes (Err (faults.TooLong at)) fault h f = one_fault bytes _ fault h f
is_first bytes (Err (faults.UnknownKind at kind)) fault h f = one_fault bytes _ fault h f
is_first bytes (Err (faults.Count said found)) fault h f = one_fault bytes _ fault h f
is_first bytes (Err (faults.SeqRange first)) fault h f = one_fault bytes _ fault h f
