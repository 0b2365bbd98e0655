-- Facts on states that follow one another.
use Rattle.std.proofs.Common.{◌≢◌, ℕ, ◌<◌, ◌≤◌, List, [], ◌∷◌, ◌++◌, Option, Some, None, inl, inr, sym, ◌∙◌, ap, arith, append_assoc, append-nil}
use Rattle.luau_values.proofs.Public.{later_refl, later_trans}
use Rattle.luau_run.specs.Machine.{Event, Reach, Leave, State}
use Rattle.luau_run.specs.After.{activation_of, NoneOf, LeavesLast, IsInside, AllInside, HasBegun, After}

wider_one : (runs : Option ℕ) (low mid high : ℕ) (e : Event) → mid ≤ high → IsInside runs low mid e → IsInside runs low high e
wider_one None low mid high e l h = (h.0, omega arith)
wider_one (Some r) low mid high (Reach a m p) l (inl h) = inl h
wider_one (Some r) low mid high (Reach a m p) l (inr h) = inr (h.0, omega arith)
wider_one (Some r) low mid high (Leave a) l h = (h.0, omega arith)

wider : (runs : Option ℕ) (low mid high : ℕ) (events : List Event) → mid ≤ high → AllInside runs low mid events → AllInside runs low high events
wider runs low mid high [] l h = tt
wider runs low mid high (e ∷ events) l h = (wider_one runs low mid high e l h.0, wider runs low mid high events l h.1)

lower_one : (runs : Option ℕ) (low mid high : ℕ) (e : Event) → low ≤ mid → IsInside runs mid high e → IsInside runs low high e
lower_one None low mid high e l h = (omega arith, h.1)
lower_one (Some r) low mid high (Reach a m p) l (inl h) = inl h
lower_one (Some r) low mid high (Reach a m p) l (inr h) = inr (omega arith, h.1)
lower_one (Some r) low mid high (Leave a) l h = (omega arith, h.1)

lower : (runs : Option ℕ) (low mid high : ℕ) (events : List Event) → low ≤ mid → AllInside runs mid high events → AllInside runs low high events
lower runs low mid high [] l h = tt
lower runs low mid high (e ∷ events) l h = (lower_one runs low mid high e l h.0, lower runs low mid high events l h.1)

inside_append : (runs : Option ℕ) (low high : ℕ) (xs ys : List Event) → AllInside runs low high xs → AllInside runs low high ys → AllInside runs low high (xs ++ ys)
inside_append runs low high [] ys h k = k
inside_append runs low high (x ∷ xs) ys h k = (h.0, inside_append runs low high xs ys h.1 k)

-- an event of later activations, or of the one that runs, isn't one of an activation that ended before
other_one : (runs : Option ℕ) (low mid high a : ℕ) (e : Event) → HasBegun runs low → low ≤ a → a < mid → IsInside runs mid high e → activation_of e ≢ a
other_one None low mid high a e b l g h = λ q. absurd (omega arith)
other_one (Some r) low mid high a (Reach x m p) b l g (inl h) = λ q. absurd (omega arith)
other_one (Some r) low mid high a (Reach x m p) b l g (inr h) = λ q. absurd (omega arith)
other_one (Some r) low mid high a (Leave x) b l g h = λ q. absurd (omega arith)

others : (runs : Option ℕ) (low mid high a : ℕ) (events : List Event) → HasBegun runs low → low ≤ a → a < mid → AllInside runs mid high events → NoneOf a events
others runs low mid high a [] b l g h = tt
others runs low mid high a (e ∷ events) b l g h = (other_one runs low mid high a e b l g h.0, others runs low mid high a events b l g h.1)

none_append : (a : ℕ) (xs ys : List Event) → NoneOf a xs → NoneOf a ys → NoneOf a (xs ++ ys)
none_append a [] ys h k = k
none_append a (x ∷ xs) ys h k = (h.0, none_append a xs ys h.1 k)

left_inside : (runs : Option ℕ) (low high a : ℕ) → IsInside runs low high (Leave a) → (low ≤ a) × (a < high)
left_inside None low high a h = h
left_inside (Some r) low high a h = h

last_append : (runs : Option ℕ) (low mid high : ℕ) (xs ys : List Event) → HasBegun runs low → AllInside runs low mid xs → AllInside runs mid high ys
    → LeavesLast xs → LeavesLast ys → LeavesLast (xs ++ ys)
last_append runs low mid high [] ys b h k p q = q
last_append runs low mid high (Reach a m place ∷ xs) ys b h k p q = last_append runs low mid high xs ys b h.1 k p q
last_append runs low mid high (Leave a ∷ xs) ys b h k p q =
    let r : (low ≤ a) × (a < mid) = left_inside runs low mid a h.0 in
    (none_append a xs ys p.0 (others runs low mid high a ys b r.0 r.1 k), last_append runs low mid high xs ys b h.1 k p.1 q)

pub begun_later : (runs : Option ℕ) (low high : ℕ) → HasBegun runs low → low ≤ high → HasBegun runs high
begun_later None low high b l = tt
begun_later (Some r) low high b l = omega arith

-- nothing happens
pub after_refl : (runs : Option ℕ) (s : State) → After runs s s
after_refl runs s = record {
  events = [];
  logged = sym (append-nil s.trace);
  inside = tt;
  last = tt;
  heap = later_refl s.store.heap;
  begun = omega arith;
  steps = omega arith;
  tape = omega arith;
}

-- one part and then another
pub after_trans : (runs : Option ℕ) (s t u : State) → HasBegun runs s.store.begun → After runs s t → After runs t u → After runs s u
after_trans runs s t u b h k = record {
  events = h.events ++ k.events;
  logged = k.logged ∙ (ap (λ (l : List Event). l ++ k.events) h.logged ∙ append_assoc s.trace h.events k.events);
  inside = inside_append runs s.store.begun u.store.begun h.events k.events
      (wider runs s.store.begun t.store.begun u.store.begun h.events k.begun h.inside)
      (lower runs s.store.begun t.store.begun u.store.begun k.events h.begun k.inside);
  last = last_append runs s.store.begun t.store.begun u.store.begun h.events k.events b h.inside k.inside h.last k.last;
  heap = later_trans s.store.heap t.store.heap u.store.heap h.heap k.heap;
  begun = omega (arith, h.begun, k.begun);
  steps = omega (arith, h.steps, k.steps);
  tape = omega (arith, h.tape, k.tape);
}

-- what new activations alone do, any activation may do by them
inside_any : (runs : Option ℕ) (low high : ℕ) (events : List Event) → AllInside None low high events → AllInside runs low high events
inside_any None low high events h = h
inside_any (Some r) low high [] h = tt
inside_any (Some r) low high (Reach a m p ∷ events) h = (inr h.0, inside_any (Some r) low high events h.1)
inside_any (Some r) low high (Leave a ∷ events) h = (h.0, inside_any (Some r) low high events h.1)

pub after_any : (runs : Option ℕ) (s t : State) → After None s t → After runs s t
after_any runs s t h = record {
  events = h.events;
  logged = h.logged;
  inside = inside_any runs s.store.begun t.store.begun h.events h.inside;
  last = h.last;
  heap = h.heap;
  begun = h.begun;
  steps = h.steps;
  tape = h.tape;
}
