-- An activation is a good part: its number is new, and its end is its last event.
use Rattle.std.proofs.Common.{◌≡◌, ◌≢◌, ℕ, ◌+◌, ◌<◌, ◌≤◌, List, [], ◌∷◌, ◌++◌, Some, None, ◌⊎◌, inl, inr, refl, sym, ◌∙◌, ap, subst, arith, append_assoc}
use Rattle.luau_run.specs.Machine.{Event, Reach, Leave, Answer, State, Ran, Gave, Failed, Spent, Part, go_on, ◌>>=◌, ◌>>◌, give, log, look, change, activate}
use Rattle.luau_run.specs.Run.{end_of}
use Rattle.luau_run.specs.After.{NoneOf, LeavesLast, IsInside, AllInside, After, with_more, Begins, GoesOn}
use Rattle.luau_run.proofs.Good.{Good}

-- the state with one more activation, and with the end of one logged
abbrev begun_one : State → State
begun_one s = record s { store = record s.store { begun = s.store.begun + 1 } }

abbrev ended : ℕ → State → State
ended n t = record t { trace = t.trace ++ Leave n ∷ [] }

inside_new : (n high : ℕ) (events : List Event) → n < high → AllInside (Some n) (n + 1) high events → AllInside None n high events
inside_new n high [] l h = tt
inside_new n high (Reach a m p ∷ events) l h = (within a h.0, inside_new n high events l h.1)
  where
    within : (a : ℕ) → (a ≡ n) ⊎ ((n + 1 ≤ a) × (a < high)) → (n ≤ a) × (a < high)
    within a (inl e) = (omega arith, omega arith)
    within a (inr k) = (omega arith, omega arith)
inside_new n high (Leave a ∷ events) l h = ((omega arith, omega arith), inside_new n high events l h.1)

inside_end : (low high : ℕ) (events : List Event) (e : Event) → AllInside None low high events → IsInside None low high e → AllInside None low high (events ++ e ∷ [])
inside_end low high [] e h k = (k, tt)
inside_end low high (x ∷ events) e h k = (h.0, inside_end low high events e h.1 k)

none_end : (a n : ℕ) (events : List Event) → n ≢ a → NoneOf a events → NoneOf a (events ++ Leave n ∷ [])
none_end a n [] ne h = (ne, tt)
none_end a n (x ∷ events) ne h = (h.0, none_end a n events ne h.1)

last_end : (n high : ℕ) (events : List Event) → AllInside (Some n) (n + 1) high events → LeavesLast events → LeavesLast (events ++ Leave n ∷ [])
last_end n high [] h l = (tt, tt)
last_end n high (Reach a m p ∷ events) h l = last_end n high events h.1 l
last_end n high (Leave a ∷ events) h l = (none_end a n events (λ e. absurd (omega arith)) l.0, last_end n high events h.1 l.1)

open_after : (s t : State) → After (Some s.store.begun) (begun_one s) t → After None s t
open_after s t h = record {
  events = h.events;
  logged = h.logged;
  inside = inside_new s.store.begun t.store.begun h.events (omega (arith, h.begun)) h.inside;
  last = h.last;
  heap = h.heap;
  begun = omega (arith, h.begun);
  steps = h.steps;
  tape = h.tape;
}

ended_after : (s t : State) → After (Some s.store.begun) (begun_one s) t → After None s (ended s.store.begun t)
ended_after s t h = record {
  events = h.events ++ Leave s.store.begun ∷ [];
  logged = ap (λ (l : List Event). l ++ Leave s.store.begun ∷ []) h.logged ∙ append_assoc s.trace h.events (Leave s.store.begun ∷ []);
  inside = inside_end s.store.begun t.store.begun h.events (Leave s.store.begun)
      (inside_new s.store.begun t.store.begun h.events (omega (arith, h.begun)) h.inside) (omega arith, omega (arith, h.begun));
  last = last_end s.store.begun t.store.begun h.events h.inside h.last;
  heap = h.heap;
  begun = omega (arith, h.begun);
  steps = h.steps;
  tape = h.tape;
}

-- what comes after an activation's body
abbrev close : {A : Type 0} → ℕ → Ran A → Ran A
close n (Gave x t) = Gave x (ended n t)
close n (Failed t) = Failed t
close n (Spent t) = Spent t

opens : {A : Type 0} (body : ℕ → Part A) (s : State) (r : Ran A) → body s.store.begun (begun_one s) ≡ r → activate body s ≡ close s.store.begun r
unfolding activate ◌>>=◌ give log look change
opens {A} body s (Gave x t) e = ap (λ (w : Ran A). go_on w (λ given. ◌>>◌ (log (Leave s.store.begun)) (give given))) e
opens {A} body s (Failed t) e = ap (λ (w : Ran A). go_on w (λ given. ◌>>◌ (log (Leave s.store.begun)) (give given))) e
opens {A} body s (Spent t) e = ap (λ (w : Ran A). go_on w (λ given. ◌>>◌ (log (Leave s.store.begun)) (give given))) e

close_after : {A : Type 0} (s : State) (r : Ran A) → After (Some s.store.begun) (begun_one s) (end_of r) → After None s (end_of (close s.store.begun r))
close_after s (Gave x t) h = ended_after s t h
close_after s (Failed t) h = open_after s t h
close_after s (Spent t) h = open_after s t h

close_begins : {A : Type 0} (xs : List Event) (n : ℕ) (r : Ran A) → Begins xs (end_of r).trace → Begins xs (end_of (close n r)).trace
close_begins xs n (Gave x t) h = (h.0 ++ Leave n ∷ [], ap (λ (l : List Event). l ++ Leave n ∷ []) h.1 ∙ append_assoc xs h.0 (Leave n ∷ []))
close_begins xs n (Failed t) h = h
close_begins xs n (Spent t) h = h

close_goes_on : {A : Type 0} (n : ℕ) (more : List Answer) (a : ℕ) (r r' : Ran A) → GoesOn n more r r' → GoesOn n more (close a r) (close a r')
close_goes_on n more a (Gave x t) r' h = ap (close a) h
close_goes_on n more a (Failed t) r' h = ap (close a) h
close_goes_on n more a (Spent t) r' h = close_begins t.trace a r' h

pub good_activate : (depth : ℕ) {A : Type 0} (f g : ℕ → Part A) → ((n : ℕ) → Good depth (Some n) (f n) (g n)) → Good depth None (activate f) (activate g)
good_activate depth {A} f g h = record {
  after = λ s b. subst (λ (w : Ran A). After None s (end_of w)) (sym (opens g s (g s.store.begun (begun_one s)) refl))
      (close_after s (g s.store.begun (begun_one s)) ((h s.store.begun).after (begun_one s) (omega arith)));
  agrees = λ s b l. opens f s (f s.store.begun (begun_one s)) refl
      ∙ (ap (close s.store.begun) ((h s.store.begun).agrees (begun_one s) (omega arith) l) ∙ sym (opens g s (g s.store.begun (begun_one s)) refl));
  goes_on = λ n more s b.
      let k : GoesOn n more (close s.store.begun (f s.store.begun (begun_one s))) (close s.store.begun (g s.store.begun (begun_one (with_more n more s)))) =
      close_goes_on n more s.store.begun (f s.store.begun (begun_one s)) (g s.store.begun (begun_one (with_more n more s))) ((h s.store.begun).goes_on n more (begun_one s) (omega arith)) in
      subst (λ (w : Ran A). GoesOn n more w (activate g (with_more n more s))) (sym (opens f s (f s.store.begun (begun_one s)) refl))
      (subst (λ (w : Ran A). GoesOn n more (close s.store.begun (f s.store.begun (begun_one s))) w) (sym (opens g (with_more n more s) (g s.store.begun (begun_one (with_more n more s))) refl)) k);
}
