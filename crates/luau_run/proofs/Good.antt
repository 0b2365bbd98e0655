-- What holds of each part of a run beside the same part over a deeper layer, and that it holds of parts in a row.
use Rattle.std.proofs.Common.{◌≡◌, ℕ, zero, suc, ◌+◌, ◌<◌, ◌≤◌, Bool, true, false, if◌then◌else◌, List, [], ◌∷◌, ◌++◌, length, Option, Some, None, inl, refl, sym, ◌∙◌, ap, subst, arith, append_assoc, append-nil, suc-add}
use Rattle.luau_values.specs.Value.{Value}
use Rattle.luau_values.specs.Later.{Later}
use Rattle.luau_values.specs.Heap.{is_frozen, with_field}
use Rattle.luau_values.proofs.Public.{later_refl, write_later}
use Rattle.luau_tree.specs.declared.names.Place.{Place}
use Rattle.luau_run.specs.Machine.{Event, Reach, Answer, Store, State, Ran, Gave, Failed, Spent, Part, go_on, ◌>>=◌, give, fail, spend, step_of, step, log, look, change, Reply, Unfit, Fails, Fits, replied, asked, ask, caught, catch, write_field}
use Rattle.luau_run.specs.Run.{end_of}
use Rattle.luau_run.specs.After.{HasBegun, After, with_more, Begins, GoesOn}
use Rattle.luau_run.proofs.AfterFacts.{begun_later, after_refl, after_trans, after_any}

-- the steps and answers that are left
abbrev pub left : State → ℕ
left s = s.steps + length s.tape

-- the second part is the first over a deeper layer: it does only what parts do; with fewer than `depth` steps and
-- answers left both are the same; and with more steps and answers it goes on where the first is spent
pub record Good (depth : ℕ) (runs : Option ℕ) {A : Type 0} (p q : Part A) : Type 0 where
  pub after : (s : State) → HasBegun runs s.store.begun → After runs s (end_of (q s))
  pub agrees : (s : State) → HasBegun runs s.store.begun → left s < depth → p s ≡ q s
  pub goes_on : (n : ℕ) (more : List Answer) (s : State) → HasBegun runs s.store.begun → GoesOn n more (p s) (q (with_more n more s))

begins_refl : (xs : List Event) → Begins xs xs
begins_refl xs = ([], sym (append-nil xs))

begins_trans : (xs ys zs : List Event) → Begins xs ys → Begins ys zs → Begins xs zs
begins_trans xs ys zs h k = (h.0 ++ k.0, k.1 ∙ (ap (λ (l : List Event). l ++ k.0) h.1 ∙ append_assoc xs h.0 k.0))

begins_after : {runs : Option ℕ} {s t : State} → After runs s t → Begins s.trace t.trace
begins_after h = (h.events, h.logged)

pub good_give : (depth : ℕ) (runs : Option ℕ) {A : Type 0} (x : A) → Good depth runs (give x) (give x)
unfolding give
good_give depth runs x = record {
  after = λ s b. after_refl runs s;
  agrees = λ s b l. refl;
  goes_on = λ n more s b. refl;
}

pub good_fail : (depth : ℕ) (runs : Option ℕ) (A : Type 0) → Good depth runs (fail {A = A}) (fail {A = A})
unfolding fail
good_fail depth runs A = record {
  after = λ s b. after_refl runs s;
  agrees = λ s b l. refl;
  goes_on = λ n more s b. refl;
}

pub good_spend : (depth : ℕ) (runs : Option ℕ) (A : Type 0) → Good depth runs (spend {A = A}) (spend {A = A})
unfolding spend
good_spend depth runs A = record {
  after = λ s b. after_refl runs s;
  agrees = λ s b l. refl;
  goes_on = λ n more s b. begins_refl s.trace;
}

-- at depth 0 everything is spent, and any part goes on from there
pub good_lowest : (runs : Option ℕ) {A : Type 0} (q : Part A) → ((s : State) → HasBegun runs s.store.begun → After runs s (end_of (q s))) → Good 0 runs spend q
unfolding spend
good_lowest runs q h = record {
  after = h;
  agrees = λ s b l. absurd (omega arith);
  goes_on = λ n more s b. begins_after (h (with_more n more s) b);
}

-- ---- one part and then another

module _ (depth : ℕ) (runs : Option ℕ) {A B : Type 0} (p q : Part A) (f g : A → Part B) (h : Good depth runs p q) (k : (x : A) → Good depth runs (f x) (g x)) where
  after_ran : (s : State) (r : Ran A) → HasBegun runs s.store.begun → After runs s (end_of r) → After runs s (end_of (go_on r g))
  after_ran s (Gave x t) b a = after_trans runs s t (end_of (g x t)) b a ((k x).after t (begun_later runs s.store.begun t.store.begun b a.begun))
  after_ran s (Failed t) b a = a
  after_ran s (Spent t) b a = a

  agrees_ran : (s : State) (r : Ran A) → HasBegun runs s.store.begun → After runs s (end_of r) → left s < depth → go_on r f ≡ go_on r g
  agrees_ran s (Gave x t) b a l = (k x).agrees t (begun_later runs s.store.begun t.store.begun b a.begun) (omega (arith, a.steps, a.tape))
  agrees_ran s (Failed t) b a l = refl
  agrees_ran s (Spent t) b a l = refl

  begins_ran : (s : State) (r : Ran A) → HasBegun runs s.store.begun → After runs s (end_of r) → Begins (end_of r).trace (end_of (go_on r g)).trace
  begins_ran s (Gave x t) b a = begins_after ((k x).after t (begun_later runs s.store.begun t.store.begun b a.begun))
  begins_ran s (Failed t) b a = begins_refl t.trace
  begins_ran s (Spent t) b a = begins_refl t.trace

  goes_on_ran : (n : ℕ) (more : List Answer) (s : State) (r r' : Ran A) → HasBegun runs s.store.begun → After runs (with_more n more s) (end_of r')
      → GoesOn n more r r' → GoesOn n more (go_on r f) (go_on r' g)
  goes_on_ran n more s (Gave x t) r' b a e =
      let c : s.store.begun ≤ t.store.begun = subst (λ (w : Ran A). s.store.begun ≤ (end_of w).store.begun) e a.begun in
      subst (λ (w : Ran A). GoesOn n more (f x t) (go_on w g)) (sym e) ((k x).goes_on n more t (begun_later runs s.store.begun t.store.begun b c))
  goes_on_ran n more s (Failed t) r' b a e = ap (λ (w : Ran A). go_on w g) e
  goes_on_ran n more s (Spent t) r' b a e =
      begins_trans t.trace (end_of r').trace (end_of (go_on r' g)).trace e (begins_ran (with_more n more s) r' b a)

  pub good_then : Good depth runs (◌>>=◌ p f) (◌>>=◌ q g)
  unfolding ◌>>=◌
  good_then = record {
    after = λ s b. after_ran s (q s) b (h.after s b);
    agrees = λ s b l. ap (λ (w : Ran A). go_on w f) (h.agrees s b l) ∙ agrees_ran s (q s) b (h.after s b) l;
    goes_on = λ n more s b. goes_on_ran n more s (p s) (q (with_more n more s)) b (h.after (with_more n more s) b) (h.goes_on n more s b);
  }

-- ---- a part that takes a step or an answer gives the rest one layer less to do

-- with what is given, fewer steps and answers are left
abbrev pub HasTaken : {A : Type 0} → State → Ran A → Type 0
HasTaken s (Gave x t) = left t < left s
HasTaken s (Failed t) = Unit {0}
HasTaken s (Spent t) = Unit {0}

pub shallow : {depth low : ℕ} {runs : Option ℕ} {A : Type 0} {p q : Part A} → low ≤ depth → Good depth runs p q → Good low runs p q
shallow l h = record { after = h.after; agrees = λ s b m. h.agrees s b (omega arith); goes_on = h.goes_on }

pub good_any : {depth : ℕ} (runs : Option ℕ) {A : Type 0} {p q : Part A} → Good depth None p q → Good depth runs p q
good_any runs h = record {
  after = λ s b. after_any runs s _ (h.after s tt);
  agrees = λ s b m. h.agrees s tt m;
  goes_on = λ n more s b. h.goes_on n more s tt;
}

module _ (depth : ℕ) (runs : Option ℕ) {A B : Type 0} (p q : Part A) (f g : A → Part B) (h : Good (suc depth) runs p q) (takes : (s : State) → HasTaken s (q s)) (k : (x : A) → Good depth runs (f x) (g x)) where
  agrees_taken : (s : State) (r : Ran A) → HasBegun runs s.store.begun → After runs s (end_of r) → HasTaken s r → left s < suc depth → go_on r f ≡ go_on r g
  agrees_taken s (Gave x t) b a c l = (k x).agrees t (begun_later runs s.store.begun t.store.begun b a.begun) (omega arith)
  agrees_taken s (Failed t) b a c l = refl
  agrees_taken s (Spent t) b a c l = refl

  pub good_taken : Good (suc depth) runs (◌>>=◌ p f) (◌>>=◌ q g)
  unfolding ◌>>=◌
  good_taken =
      let whole : Good zero runs (◌>>=◌ p f) (◌>>=◌ q g) = good_then zero runs p q f g (shallow (omega arith) h) (λ x. shallow (omega arith) (k x)) in
      record {
        after = whole.after;
        agrees = λ s b l. ap (λ (w : Ran A). go_on w f) (h.agrees s b l) ∙ agrees_taken s (q s) b (h.after s b) (takes s) l;
        goes_on = whole.goes_on;
      }

-- ---- the smallest parts

-- a part that logs nothing
after_silent : (runs : Option ℕ) (s t : State) → t.trace ≡ s.trace → Later s.store.heap t.store.heap → t.store.begun ≡ s.store.begun → t.steps ≤ s.steps → length t.tape ≤ length s.tape → After runs s t
after_silent runs s t e h b n m = record {
  events = [];
  logged = e ∙ sym (append-nil s.trace);
  inside = tt;
  last = tt;
  heap = h;
  begun = omega (arith, b);
  steps = n;
  tape = m;
}

step_after : (runs : Option ℕ) (s : State) (n : ℕ) → s.steps ≡ n → After runs s (end_of (step_of n s))
step_after runs s zero e = after_refl runs s
step_after runs s (suc n) e = after_silent runs s _ refl (later_refl s.store.heap) refl (omega arith) (omega arith)

step_goes_on : (n : ℕ) (more : List Answer) (s : State) (m : ℕ) → s.steps ≡ m → GoesOn n more (step_of m s) (step_of (m + n) (with_more n more s))
step_goes_on n more s zero e = begins_after (step_after None (with_more n more s) (zero + n) (omega arith))
step_goes_on n more s (suc m) e = rw (suc-add m n) refl

pub good_step : (depth : ℕ) (runs : Option ℕ) → Good depth runs step step
unfolding step
good_step depth runs = record {
  after = λ s b. step_after runs s s.steps refl;
  agrees = λ s b l. refl;
  goes_on = λ n more s b. step_goes_on n more s s.steps refl;
}

step_taken : (s : State) (n : ℕ) → s.steps ≡ n → HasTaken s (step_of n s)
step_taken s zero e = tt
step_taken s (suc n) e = omega arith

pub step_takes : (s : State) → HasTaken s (step s)
unfolding step
step_takes s = step_taken s s.steps refl

-- the activation that runs reaches a place
pub good_log : (depth runs module_at : ℕ) (place : Place) → Good depth (Some runs) (log (Reach runs module_at place)) (log (Reach runs module_at place))
unfolding log
good_log depth runs module_at place = record {
  after = λ s b. record { events = Reach runs module_at place ∷ []; logged = refl; inside = (inl refl, tt); last = tt; heap = later_refl s.store.heap; begun = omega arith; steps = omega arith; tape = omega arith };
  agrees = λ s b l. refl;
  goes_on = λ n more s b. refl;
}

pub good_look : (depth : ℕ) (runs : Option ℕ) → Good depth runs look look
unfolding look
good_look depth runs = record {
  after = λ s b. after_refl runs s;
  agrees = λ s b l. refl;
  goes_on = λ n more s b. refl;
}

-- a change that keeps frozen tables and begins no activation
pub good_change : (depth : ℕ) (runs : Option ℕ) (f : Store → Store) → ((s : Store) → Later s.heap (f s).heap) → ((s : Store) → (f s).begun ≡ s.begun) → Good depth runs (change f) (change f)
unfolding change
good_change depth runs f later same = record {
  after = λ s b. after_silent runs s _ refl (later s.store) (same s.store) (omega arith) (omega arith);
  agrees = λ s b l. refl;
  goes_on = λ n more s b. refl;
}

replied_after : (runs : Option ℕ) {A : Type 0} (s : State) (rest : List Answer) (answer : Answer) (r : Reply A) → s.tape ≡ answer ∷ rest
    → After runs s (end_of (replied r s (record s { tape = rest })))
replied_after runs s rest answer Unfit e = after_refl runs s
replied_after runs s rest answer Fails e = after_silent runs s _ refl (later_refl s.store.heap) refl (omega arith) (omega (arith, ap (λ (l : List Answer). length l) e))
replied_after runs s rest answer (Fits x) e = after_silent runs s _ refl (later_refl s.store.heap) refl (omega arith) (omega (arith, ap (λ (l : List Answer). length l) e))

asked_after : (runs : Option ℕ) {A : Type 0} (reply : Answer → Reply A) (s : State) (tape : List Answer) → s.tape ≡ tape → After runs s (end_of (asked reply tape s))
asked_after runs reply s [] e = after_refl runs s
asked_after runs reply s (answer ∷ rest) e = replied_after runs s rest answer (reply answer) e

replied_goes_on : {A : Type 0} (n : ℕ) (more : List Answer) (s : State) (rest : List Answer) (r : Reply A)
    → GoesOn n more (replied r s (record s { tape = rest })) (replied r (with_more n more s) (record (with_more n more s) { tape = rest ++ more }))
replied_goes_on n more s rest Unfit = begins_refl s.trace
replied_goes_on n more s rest Fails = refl
replied_goes_on n more s rest (Fits x) = refl

asked_goes_on : {A : Type 0} (reply : Answer → Reply A) (n : ℕ) (more : List Answer) (s : State) (tape : List Answer) → s.tape ≡ tape
    → GoesOn n more (asked reply tape s) (asked reply (tape ++ more) (with_more n more s))
asked_goes_on reply n more s [] e = begins_after (asked_after None reply (with_more n more s) more (ap (λ (l : List Answer). l ++ more) e))
asked_goes_on reply n more s (answer ∷ rest) e = replied_goes_on n more s rest (reply answer)

pub good_ask : (depth : ℕ) (runs : Option ℕ) {A : Type 0} (reply : Answer → Reply A) → Good depth runs (ask reply) (ask reply)
unfolding ask
good_ask depth runs reply = record {
  after = λ s b. asked_after runs reply s s.tape refl;
  agrees = λ s b l. refl;
  goes_on = λ n more s b. asked_goes_on reply n more s s.tape refl;
}

replied_taken : {A : Type 0} (s : State) (rest : List Answer) (answer : Answer) (r : Reply A) → s.tape ≡ answer ∷ rest → HasTaken s (replied r s (record s { tape = rest }))
replied_taken s rest answer Unfit e = tt
replied_taken s rest answer Fails e = tt
replied_taken s rest answer (Fits x) e = omega (arith, ap (λ (l : List Answer). length l) e)

asked_taken : {A : Type 0} (reply : Answer → Reply A) (s : State) (tape : List Answer) → s.tape ≡ tape → HasTaken s (asked reply tape s)
asked_taken reply s [] e = tt
asked_taken reply s (answer ∷ rest) e = replied_taken s rest answer (reply answer) e

pub ask_takes : {A : Type 0} (reply : Answer → Reply A) (s : State) → HasTaken s (ask reply s)
unfolding ask
ask_takes reply s = asked_taken reply s s.tape refl

-- ---- failures that are caught, and writes

caught_after : (runs : Option ℕ) {A : Type 0} (s : State) (r : Ran A) → After runs s (end_of r) → After runs s (end_of (caught r))
caught_after runs s (Gave x t) h = h
caught_after runs s (Failed t) h = h
caught_after runs s (Spent t) h = h

caught_begins : {A : Type 0} (xs : List Event) (r : Ran A) → Begins xs (end_of r).trace → Begins xs (end_of (caught r)).trace
caught_begins xs (Gave x t) h = h
caught_begins xs (Failed t) h = h
caught_begins xs (Spent t) h = h

caught_goes_on : {A : Type 0} (n : ℕ) (more : List Answer) (r r' : Ran A) → GoesOn n more r r' → GoesOn n more (caught r) (caught r')
caught_goes_on n more (Gave x t) r' h = ap caught h
caught_goes_on n more (Failed t) r' h = ap caught h
caught_goes_on n more (Spent t) r' h = caught_begins t.trace r' h

pub good_catch : (depth : ℕ) (runs : Option ℕ) {A : Type 0} (p q : Part A) → Good depth runs p q → Good depth runs (catch p) (catch q)
unfolding catch
good_catch depth runs p q h = record {
  after = λ s b. caught_after runs s (q s) (h.after s b);
  agrees = λ s b l. ap caught (h.agrees s b l);
  goes_on = λ n more s b. caught_goes_on n more (p s) (q (with_more n more s)) (h.goes_on n more s b);
}

-- a write, with the test of the mark
abbrev tried : ℕ → List ℕ → Value → Bool → Part (Unit {0})
tried table name value b s =
    if b then Failed s else Gave tt (record s { store = record s.store { heap = with_field table name value s.store.heap } })

tried_after : (runs : Option ℕ) (table : ℕ) (name : List ℕ) (value : Value) (s : State) (b : Bool) → is_frozen s.store.heap table ≡ b → After runs s (end_of (tried table name value b s))
tried_after runs table name value s true e = after_refl runs s
tried_after runs table name value s false e = after_silent runs s _ refl (write_later s.store.heap table name value e) refl (omega arith) (omega arith)

tried_goes_on : (table : ℕ) (name : List ℕ) (value : Value) (n : ℕ) (more : List Answer) (s : State) (b : Bool) → GoesOn n more (tried table name value b s) (tried table name value b (with_more n more s))
tried_goes_on table name value n more s true = refl
tried_goes_on table name value n more s false = refl

pub good_write : (depth : ℕ) (runs : Option ℕ) (table : ℕ) (name : List ℕ) (value : Value) → Good depth runs (write_field table name value) (write_field table name value)
unfolding write_field
good_write depth runs table name value = record {
  after = λ s b. tried_after runs table name value s (is_frozen s.store.heap table) refl;
  agrees = λ s b l. refl;
  goes_on = λ n more s b. tried_goes_on table name value n more s (is_frozen s.store.heap table);
}

pub good_if : (depth : ℕ) (runs : Option ℕ) {A : Type 0} (b : Bool) (p q p' q' : Part A) → Good depth runs p p' → Good depth runs q q' → Good depth runs (if b then p else q) (if b then p' else q')
good_if depth runs true p q p' q' h k = h
good_if depth runs false p q p' q' h k = k
