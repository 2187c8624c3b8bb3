-- Raising the acked word, and reading it, keep the rule of the table.
use Rattle.std.proofs.Common.{◌≡◌, ◌≢◌, ℕ, ◌<◌, ◌≤◌, get_or, set, Some, sym, refl, ap, ◌∙◌, subst, arith, true, max}
use mathlib.Core.Option.{none}
use Rattle.atomic_table.specs.Table.{step, keeps, Allows}
use Rattle.memtable_shards.specs.Versions.{touches}
use Rattle.publish_core.specs.declared.seat.Kind.TheVariants.{Spent}
use Rattle.publish_core.specs.declared.seat.SeatState.{SeatState}
use Rattle.publish_core.specs.Machine.{updated, Acts, one_more, after_load_acked}
use Rattle.publish_core.proofs.Laws.{at_below}
use Rattle.publish_core.proofs.Laws.{kept_raise_acked}
use Rattle.publish_core.proofs.Laws.{kept_load_acked}
use Rattle.commit_queue.specs.declared.pipe_table.TableOpening.{TableOpening}
use Rattle.commit_queue.specs.declared.view.View.{View}
use Rattle.commit_queue.specs.declared.layout.TheConstants.{ACKED}
use Rattle.commit_queue.specs.Rule.{RingState, numbers, Linked}
use Rattle.commit_queue.specs.Views.{raising_view, acked_view}
use Rattle.commit_queue.specs.Tells.{Seated, TellsAckedRaised, TellsAcked}
use Rattle.commit_queue.proofs.Becomes.{still, linked, has_seen, stays}
use Rattle.commit_queue.proofs.Words.{shows_seats, shows_acked}

module _ (o : TableOpening) where
  pub raises_acked : (n id : ℕ) (me : Seated) (k h t : ℕ)
      → me.0.acked_known.is_flush ≡ true → me.0.seat.kind ≢ Spent → me.0.seat.loaded ≡ Some record {
        head = h;
        tail = t;
      } → k ≤ h → Allows (Linked o) n id me ACKED (λ x. max x k) (TellsAckedRaised (step n ACKED k 0 none) me)
  raises_acked n id me k h t flush live loaded le s r wide has _ =
      let c : RingState = r.core in let v : View = me.0 in let ok = r.each_view id v has in let sound = r.sound in
      let seat : c.seats id ≡ v.seat = ok.seat in let w : View = raising_view v k in
      let c' : RingState = record c { acked = max c.acked k } in
      let front = (sound.each_seat id).loaded record { head = h; tail = t } (ap (λ (d : SeatState). d.loaded) seat ∙ loaded) in
      let hd : h ≤ c.head = front.0 in let mine = ok.acked_known.raised flush in let one : id ≡ 1 = mine.0 in
      let there : 1 < c.made = (let l = at_below s.views id v has in let m = r.made in omega arith) in (
        w,
        keeps,
        tt,
        linked o s r id (record (still o s r id v has) {
          words = set s.words ACKED (max (get_or s.words ACKED 0) k);
          view = w;
          core = c';
          sound = kept_raise_acked numbers touches c sound k (omega arith);
          shows = shows_acked c c' s.words (max (get_or s.words ACKED 0) k) r.shows (ap (λ (y : ℕ). max y k) r.shows.acked_word) refl refl refl refl refl;
          acked_known = record {
            raised = λ e. (one, ap (λ (y : ℕ). max y k) mine.1);
            retired = ok.acked_known.retired;
            alone = λ e. let m = (ok.acked_known.alone e).0 in absurd (omega arith);
          };
          acked_others = λ j a d ne o. record {
            raised = λ e. let q = (o.raised e).0 in absurd (ne (omega arith));
            retired = o.retired;
            alone = λ e. let m = (o.alone e).0 in absurd (omega arith);
          };
        }),
        (refl, refl, r.shows.acked_word ∙ sym mine.1),
      )

  pub sees_acked : (n id : ℕ) (me : Seated) → Acts me.0.seat → ((m : ℕ) → me.0.acked_known.retired ≡ Some m → ⊥)
      → Allows (Linked o) n id me ACKED (λ x. x) (TellsAcked (step n ACKED 0 0 none) me)
  sees_acked n id me acts calm s r wide has _ =
      let c : RingState = r.core in let v : View = me.0 in let ok = r.each_view id v has in let sound = r.sound in
      let seat : c.seats id ≡ v.seat = ok.seat in let x : ℕ = get_or s.words ACKED 0 in let w : View = acked_view v x in
      let is : c.acked ≡ x = sym r.shows.acked_word in
      stays o s ACKED id me (TellsAcked (step n ACKED 0 0 none) me) w
      (linked o s r id (record (still o s r id v has) {
        view = w;
        core = after_load_acked numbers touches c id;
        sound = kept_load_acked numbers touches c sound id (subst Acts (sym seat) acts);
        seats = λ q. updated c.seats id (let d : SeatState = seat q in
            record d { acked = is q; counts = record d.counts { ackeds = one_more d.counts.ackeds } });
        shows = shows_seats c _ s.words r.shows;
        acked_known = record { raised = ok.acked_known.raised; retired = λ m e. absurd (calm m e); alone = ok.acked_known.alone };
      }))
      (refl, refl, subst (λ (y : ℕ). v.seat.acked ≤ y) is (has_seen o s r id v has).2)
