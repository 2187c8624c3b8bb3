-- What a follower that goes on has taken, and what it has taken with a portion more.
use Rattle.std.proofs.Common.{◌≡◌, ◌≢◌, ℕ, ◌+◌, ◌-◌, ◌<◌, ◌≤◌, Bool, true, false, Option, Some, None, List, [], ◌∷◌, ◌++◌, length, take, drop, inl, inr, refl, sym, ap, ◌∙◌, subst, arith, append_assoc, append-nil, length-append}
use Rattle.std.specs.Prelude.{slice_index}
use Rattle.std.proofs.Math.Seq.{take-add}
use Rattle.std.proofs.lemmas.List.{length-take, take_at}
use Rattle.batch_repr.specs.declared.batch.Batch.{Batch}
use Rattle.wal_ship.specs.declared.fault.FollowFault.{FollowFault}
use Rattle.wal_ship.specs.declared.fault.FollowFault.TheVariants as faults
use Rattle.wal_ship.specs.declared.follower.Course.{Course}
use Rattle.wal_ship.specs.declared.follower.Course.TheVariants.{Open, Ended, Wrong}
use Rattle.wal_ship.specs.Stream.{magic, end_mark, in_frame}
use Rattle.wal_ship.specs.Course.{has_ended, fault_in}
use Rattle.wal_ship.specs.Taking.{Leads, PassesFrame, TakesBytes}
use Rattle.wal_ship.specs.Following.{AreRight, Comes, Following, HasTakenBytes, IsBegun, IsFrameOf, Joins, ShowsFault, TakesFront}
use Rattle.wal_ship.specs.Following.AreFrames.{none}
use Rattle.wal_ship.specs.Following.ShowsFault.{past_end}
use Rattle.wal_ship.specs.Following.Comes.{greets, goes_on, ends, is_none, is_wrong}
use Rattle.wal_ship.proofs.Rows.{frames_snoc}

pub right_snoc : (local : List Batch) (front : List ℕ) (known : List Batch) (frame : List ℕ) (batch : Batch) (all : List Batch)
    → AreRight local front known → IsFrameOf frame batch → Joins known batch all → AreRight local (front ++ frame) all
right_snoc local front known frame batch all r f j = record {
  frames = r.frames ++ frame;
  is = ap (λ (x : List ℕ). x ++ frame) r.is ∙ append_assoc magic r.frames frame;
  read = frames_snoc local r.frames known frame batch all r.read f j;
}

right_none : (local : List Batch) → AreRight local magic local
right_none local = record { frames = []; is = sym (append-nil magic); read = none local }

right_long : (local : List Batch) (front : List ℕ) (known : List Batch) → AreRight local front known → 8 ≤ length front
right_long local front known r = omega (arith, ap length r.is, length-append magic r.frames)

some_long : (rest : List ℕ) → rest ≢ [] → 0 < length rest
some_long [] ne = absurd (ne refl)
some_long (x ∷ rest) ne = omega arith

-- ---- what was taken

-- a part of the first eight bytes
pub record Greets (local : List Batch) (bytes : List ℕ) (known : List Batch) (frame : List ℕ) : Type 0 where
  pub rest : List ℕ
  pub is : magic ≡ bytes ++ rest
  pub some : rest ≢ []
  pub known_is : known ≡ local
  pub frame_is : frame ≡ []

-- right frames, and one that is begun
pub record GoesOn (local : List Batch) (bytes : List ℕ) (known : List Batch) (frame : List ℕ) : Type 0 where
  pub front : List ℕ
  pub right : AreRight local front known
  pub is : bytes ≡ front ++ frame

-- all of a stream
pub record HasAll (local : List Batch) (bytes : List ℕ) (known : List Batch) (frame : List ℕ) : Type 0 where
  pub front : List ℕ
  pub right : AreRight local front known
  pub is : bytes ≡ front ++ end_mark
  pub frame_is : frame ≡ []

pub greeting : (local : List Batch) (bytes : List ℕ) (known : List Batch) (frame : List ℕ) (ended : Bool) (fault : Option FollowFault)
    → Comes local bytes known frame ended fault → ended ≡ false → fault ≡ None → length bytes < 8 → Greets local bytes known frame
greeting local bytes _ _ _ _ (greets rest is some) live ok lt = record { rest = rest; is = is; some = some; known_is = refl; frame_is = refl }
greeting local bytes _ _ _ _ (goes_on front frame known r is begun) live ok lt =
    absurd (omega (arith, lt, right_long local front known r, ap length is, length-append front frame))
greeting local bytes _ _ _ _ (ends front known r is) live ok lt = absurd cc
greeting local bytes _ _ _ _ (is_none at byte less is ne) live ok lt = absurd cc
greeting local bytes _ _ _ _ (is_wrong front bad known fault r is shows) live ok lt = absurd cc

pub going : (local : List Batch) (bytes : List ℕ) (known : List Batch) (frame : List ℕ) (ended : Bool) (fault : Option FollowFault)
    → Comes local bytes known frame ended fault → ended ≡ false → fault ≡ None → 8 ≤ length bytes → GoesOn local bytes known frame
going local bytes _ _ _ _ (greets rest is some) live ok le =
    absurd (omega (arith, le, some_long rest some, ap length is, length-append bytes rest))
going local bytes _ _ _ _ (goes_on front frame known r is begun) live ok le = record { front = front; right = r; is = is }
going local bytes _ _ _ _ (ends front known r is) live ok le = absurd cc
going local bytes _ _ _ _ (is_none at byte less is ne) live ok le = absurd cc
going local bytes _ _ _ _ (is_wrong front bad known fault r is shows) live ok le = absurd cc

pub having_all : (local : List Batch) (bytes : List ℕ) (known : List Batch) (frame : List ℕ) (ended : Bool) (fault : Option FollowFault)
    → Comes local bytes known frame ended fault → ended ≡ true → HasAll local bytes known frame
having_all local bytes _ _ _ _ (greets rest is some) ended = absurd cc
having_all local bytes _ _ _ _ (goes_on front frame known r is begun) ended = absurd cc
having_all local bytes _ _ _ _ (ends front known r is) ended = record { front = front; right = r; is = is; frame_is = refl }
having_all local bytes _ _ _ _ (is_none at byte less is ne) ended = absurd cc
having_all local bytes _ _ _ _ (is_wrong front bad known fault r is shows) ended = absurd cc

-- ---- nothing yet

pub taken_none : (follower : Following) → follower.taken ≡ [] → follower.fed ≡ 0 → follower.frame ≡ [] → follower.ended ≡ false → follower.fault ≡ None
    → HasTakenBytes follower []
taken_none follower taken fed frame ended fault = record {
  fed = fed;
  comes = rw (taken, frame, ended, fault, append-nil) (greets magic refl (λ e. absurd cc));
}

-- ---- one byte more

take_one : (byte : ℕ) (piece : List ℕ) → take 1 (byte ∷ piece) ≡ byte ∷ []
take_one byte piece = take_at (byte ∷ []) piece 1 refl

module _ (old new : Following) (byte : ℕ) (fed : new.fed ≡ old.fed + 1) (local : new.local ≡ old.local) where
  one_byte : ((bytes : List ℕ) → HasTakenBytes old bytes → Comes new.local (bytes ++ byte ∷ []) (new.local ++ new.taken) new.frame new.ended new.fault)
      → (piece : List ℕ) → TakesBytes old new (byte ∷ piece) 1
  one_byte comes piece = record {
    some = omega arith;
    within = omega arith;
    fed = fed;
    local = local;
    takes = λ bytes h. subst (λ (x : List ℕ). HasTakenBytes new (bytes ++ x)) (sym (take_one byte piece)) (record {
      fed = omega (arith, fed, h.fed, length-append bytes (byte ∷ []));
      comes = comes bytes h;
    });
  }

end_long : length end_mark ≡ 8
unfolding in_frame
end_long = refl

-- a byte behind the end
pub past_byte : (old : Following) (byte : ℕ) → old.ended ≡ true
    → (piece : List ℕ) → TakesBytes old (record old { fed = old.fed + 1; ended = false; fault = Some (faults.After old.fed) }) (byte ∷ piece) 1
past_byte old byte ended = one_byte old (record old { fed = old.fed + 1; ended = false; fault = Some (faults.After old.fed) }) byte refl refl (λ bytes h.
    let a = having_all old.local bytes (old.local ++ old.taken) old.frame old.ended old.fault h.comes ended in
    let at : length a.front + 8 ≡ old.fed = omega (arith, h.fed, ap length a.is, length-append a.front end_mark, end_long) in
    let is : bytes ++ byte ∷ [] ≡ a.front ++ (end_mark ++ byte ∷ []) =
    ap (λ (x : List ℕ). x ++ byte ∷ []) a.is ∙ append_assoc a.front end_mark (byte ∷ []) in
    subst (λ (x : List ℕ). Comes old.local (bytes ++ byte ∷ []) (old.local ++ old.taken) x false (Some (faults.After old.fed))) (sym a.frame_is)
    (subst (λ (n : ℕ). Comes old.local (bytes ++ byte ∷ []) (old.local ++ old.taken) [] false (Some (faults.After n))) at
    (is_wrong a.front (end_mark ++ byte ∷ []) (old.local ++ old.taken) (faults.After (length a.front + 8)) a.right is (past_end byte))))

-- ---- the first eight

after_byte : (local : List Batch) (bytes rest : List ℕ) → magic ≡ bytes ++ rest → Comes local bytes local [] false None
after_byte local bytes [] e =
    goes_on magic [] local (right_none local) (sym (append-nil bytes) ∙ sym e ∙ sym (append-nil magic)) (inl (omega arith))
after_byte local bytes (x ∷ rest) e = greets (x ∷ rest) e (λ h. absurd cc)

next_byte : (local : List Batch) (bytes rest : List ℕ) (byte : ℕ) → magic ≡ bytes ++ rest → rest ≢ [] → byte ≡ slice_index magic (length bytes)
    → Comes local (bytes ++ byte ∷ []) local [] false None
next_byte local bytes [] byte e some is = absurd (some refl)
next_byte local bytes (x ∷ rest) byte e some is =
    let here : byte ≡ x = is ∙ ap (λ (m : List ℕ). slice_index m (length bytes)) e ∙ at_seam bytes x rest in
    after_byte local (bytes ++ byte ∷ []) rest
    (e ∙ ap (λ (b : ℕ). bytes ++ b ∷ rest) (sym here) ∙ sym (append_assoc bytes (byte ∷ []) rest))
  where
    at_seam : (bytes : List ℕ) (x : ℕ) (rest : List ℕ) → slice_index (bytes ++ x ∷ rest) (length bytes) ≡ x
    at_seam [] x rest = refl
    at_seam (b ∷ bytes) x rest = at_seam bytes x rest

module _ (old : Following) (byte : ℕ) (live : old.ended ≡ false) (right : old.fault ≡ None) (early : old.fed < 8) where
  greeted : (bytes : List ℕ) → HasTakenBytes old bytes → Greets old.local bytes (old.local ++ old.taken) old.frame
  greeted bytes h = greeting old.local bytes (old.local ++ old.taken) old.frame old.ended old.fault h.comes live right (omega (arith, h.fed, early))

  pub right_byte : byte ≡ slice_index magic old.fed → (piece : List ℕ) → TakesBytes old (record old { fed = old.fed + 1 }) (byte ∷ piece) 1
  right_byte is = one_byte old (record old { fed = old.fed + 1 }) byte refl refl (λ bytes h.
      let g = greeted bytes h in
      let here : byte ≡ slice_index magic (length bytes) = is ∙ ap (slice_index magic) h.fed in
      rw (g.known_is, g.frame_is, live, right) (next_byte old.local bytes g.rest byte g.is g.some here))

  pub wrong_byte : byte ≢ slice_index magic old.fed
      → (piece : List ℕ) → TakesBytes old (record old { fed = old.fed + 1; ended = false; fault = Some (faults.Magic old.fed) }) (byte ∷ piece) 1
  wrong_byte other = one_byte old (record old { fed = old.fed + 1; ended = false; fault = Some (faults.Magic old.fed) }) byte refl refl (λ bytes h.
      let g = greeted bytes h in
      let front : take old.fed magic ≡ bytes = ap (λ n. take n magic) h.fed ∙ ap (take (length bytes)) g.is ∙ take_at bytes g.rest (length bytes) refl in
      rw (g.known_is, g.frame_is) (is_none old.fed byte early (ap (λ (x : List ℕ). x ++ byte ∷ []) (sym front)) other))

-- ---- bytes of a frame

begun_none : IsBegun []
begun_none = inl (omega arith)

-- where the frame leads
led : (local old new : List Batch) (front bytes : List ℕ) (course : Course) → AreRight local front old → Leads old new (length front) bytes (Some course)
    → Comes local (front ++ bytes) new [] (has_ended course) (fault_in course)
led local old new front bytes Open r l =
    goes_on (front ++ bytes) [] new (right_snoc local front old bytes l.0 new r l.1 l.2) (sym (append-nil (front ++ bytes))) begun_none
led local old new front bytes Ended r l =
    ends front new (subst (AreRight local front) (sym l.1) r) (ap (λ (x : List ℕ). front ++ x) l.0)
led local old new front bytes (Wrong fault) r l =
    is_wrong front bytes new fault (subst (AreRight local front) (sym l.1) r) refl
    (subst (λ (known : List Batch). ShowsFault known (length front) bytes fault) (sym l.1) l.0)

passed : (local old new : List Batch) (front bytes kept : List ℕ) (course : Course) → AreRight local front old
    → PassesFrame old new (length front) bytes kept course → Comes local (front ++ bytes) new kept (has_ended course) (fault_in course)
passed local old new front bytes kept course r (inl (l, k, c)) =
    rw (k, c) (goes_on front bytes new (subst (AreRight local front) (sym l.1) r) refl l.0)
passed local old new front bytes kept course r (inr (l, k)) = rw k (led local old new front bytes course r l)

pub frame_taken : (old : Following) (taken : List Batch) (kept : List ℕ) (course : Course) (piece : List ℕ) (count : ℕ) → old.ended ≡ false
    → old.fault ≡ None → 8 ≤ old.fed → length old.frame ≤ old.fed → 0 < count → count ≤ length piece
    → PassesFrame (old.local ++ old.taken) (old.local ++ taken) (old.fed - length old.frame) (old.frame ++ take count piece) kept course
    → TakesBytes old (record {
      local = old.local;
      taken = taken;
      fed = old.fed + count;
      frame = kept;
      ended = has_ended course;
      fault = fault_in course;
    }) piece count
frame_taken old taken kept course piece count live right late behind some within passes = record {
  some = some;
  within = within;
  fed = refl;
  local = refl;
  takes = λ bytes h.
      let more : List ℕ = take count piece in
      let g = going old.local bytes (old.local ++ old.taken) old.frame old.ended old.fault h.comes live right (omega (arith, h.fed, late)) in
      let at : old.fed - length old.frame ≡ length g.front = omega (arith, h.fed, ap length g.is, length-append g.front old.frame) in
      let is : bytes ++ more ≡ g.front ++ (old.frame ++ more) = ap (λ (x : List ℕ). x ++ more) g.is ∙ append_assoc g.front old.frame more in
      record {
        fed = omega (arith, h.fed, length-append bytes more, length-take count piece, within);
        comes = subst (λ (x : List ℕ). Comes old.local x (old.local ++ taken) kept (has_ended course) (fault_in course)) (sym is)
            (passed old.local (old.local ++ old.taken) (old.local ++ taken) g.front (old.frame ++ more) kept course g.right
            (subst (λ (n : ℕ). PassesFrame (old.local ++ old.taken) (old.local ++ taken) n (old.frame ++ more) kept course) at passes));
      };
}

-- ---- portion by portion

-- the first byte of a piece
pub of_piece : (old new : Following) → ((byte : ℕ) (piece : List ℕ) → TakesBytes old new (byte ∷ piece) 1) → (piece : List ℕ) → 0 < length piece
    → TakesBytes old new piece 1
of_piece old new takes [] some = absurd (omega (arith, some))
of_piece old new takes (byte ∷ piece) some = takes byte piece

-- one portion after another
pub takes_on : (first mid last : Following) (piece : List ℕ) (m n : ℕ) → TakesFront first mid piece m → TakesFront mid last (drop m piece) n
    → TakesFront first last piece (m + n)
takes_on first mid last piece m n one other = λ bytes h.
    subst (HasTakenBytes last) (append_assoc bytes (take m piece) (take n (drop m piece)) ∙ ap (λ (x : List ℕ). bytes ++ x) (sym (take-add m n piece)))
    (other (bytes ++ take m piece) (one bytes h))
