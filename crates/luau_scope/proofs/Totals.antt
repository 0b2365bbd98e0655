-- What findings amount to, list by list.
use Rattle.std.proofs.Common.{◌≡◌, ℕ, suc, ◌+◌, Bool, true, false, List, [], ◌∷◌, ◌++◌, refl, sym, ap, ◌∙◌, append_assoc, add-one, arith}
use Rattle.std.proofs.lemmas.List.{append-nil}
use Rattle.std.proofs.lemmas.Bool.{false≢true}
use Rattle.std.proofs.lemmas.Bool.Decides.{nat_tests}
use Rattle.std.specs.Prelude.{Option, Some, None, if◌then◌else◌, nat_lt, nat_le, ◌||◌, ◌&&◌, ◌==◌}
use Rattle.std.specs.List.{filter_map}
use Rattle.luau_tree.specs.declared.position.Span.{Span}
use Rattle.luau_scope.specs.declared.findings.Declared.{Declared}
use Rattle.luau_scope.specs.declared.findings.Findings.{Findings}
use Rattle.luau_scope.specs.declared.reading.LocalInfo.{LocalInfo}
use Rattle.luau_scope.specs.declared.reading.Use.TheVariants.{Local, Builtin, Library, Global}
use Rattle.luau_scope.specs.declared.refusal.Refusal.TheVariants.{ContinuePastLocal}
use Rattle.luau_scope.specs.Found.{Found, Declares, Means, Captures, Assigns, RequiresModule, Continues, Refuses}
use Rattle.luau_scope.specs.Finds.{without_continues, uses_between, past_locals}
use Rattle.luau_scope.specs.Locals.{a_use, an_assigned, a_captured, a_require, locals_from, locals_in}
use Rattle.luau_scope.specs.Refusals.{Refused, rank, comes_before, earlier_of, earliest, refusals}
use Rattle.luau_scope.specs.Steps.{step, added, no_findings, noted, marked, marked_one, reach, reach_from, passed_by}

-- ## Lists

-- the `continue`s of a `repeat` itself
abbrev pub a_continue : Found → Option (Span × ℕ)
a_continue (Continues at before) = Some (at, before)
a_continue _ = None

pub uses_added : (found : List Found) (w : Findings) → (added found w).uses ≡ w.uses ++ filter_map a_use found
unfolding added
uses_added [] w = sym (append-nil w.uses)
uses_added (Means at meaning ∷ found) w = uses_added found (step (Means at meaning) w) ∙ append_assoc w.uses ((at, meaning) ∷ []) (filter_map a_use found)
uses_added (Declares name declared function given ∷ found) w = uses_added found (step (Declares name declared function given) w)
uses_added (Captures local ∷ found) w = uses_added found (step (Captures local) w)
uses_added (Assigns local ∷ found) w = uses_added found (step (Assigns local) w)
uses_added (RequiresModule site ∷ found) w = uses_added found (step (RequiresModule site) w)
uses_added (Continues at before ∷ found) w = uses_added found (step (Continues at before) w)
uses_added (Refuses why at ∷ found) w = uses_added found (step (Refuses why at) w)

pub captured_added : (found : List Found) (w : Findings) → (added found w).captured ≡ w.captured ++ filter_map a_captured found
unfolding added
captured_added [] w = sym (append-nil w.captured)
captured_added (Captures local ∷ found) w = captured_added found (step (Captures local) w) ∙ append_assoc w.captured (local ∷ []) (filter_map a_captured found)
captured_added (Means at meaning ∷ found) w = captured_added found (step (Means at meaning) w)
captured_added (Declares name declared function given ∷ found) w = captured_added found (step (Declares name declared function given) w)
captured_added (Assigns local ∷ found) w = captured_added found (step (Assigns local) w)
captured_added (RequiresModule site ∷ found) w = captured_added found (step (RequiresModule site) w)
captured_added (Continues at before ∷ found) w = captured_added found (step (Continues at before) w)
captured_added (Refuses why at ∷ found) w = captured_added found (step (Refuses why at) w)

pub assigned_added : (found : List Found) (w : Findings) → (added found w).assigned ≡ w.assigned ++ filter_map an_assigned found
unfolding added
assigned_added [] w = sym (append-nil w.assigned)
assigned_added (Assigns local ∷ found) w = assigned_added found (step (Assigns local) w) ∙ append_assoc w.assigned (local ∷ []) (filter_map an_assigned found)
assigned_added (Captures local ∷ found) w = assigned_added found (step (Captures local) w)
assigned_added (Means at meaning ∷ found) w = assigned_added found (step (Means at meaning) w)
assigned_added (Declares name declared function given ∷ found) w = assigned_added found (step (Declares name declared function given) w)
assigned_added (RequiresModule site ∷ found) w = assigned_added found (step (RequiresModule site) w)
assigned_added (Continues at before ∷ found) w = assigned_added found (step (Continues at before) w)
assigned_added (Refuses why at ∷ found) w = assigned_added found (step (Refuses why at) w)

pub required_added : (found : List Found) (w : Findings) → (added found w).required ≡ w.required ++ filter_map a_require found
unfolding added
required_added [] w = sym (append-nil w.required)
required_added (RequiresModule site ∷ found) w = required_added found (step (RequiresModule site) w) ∙ append_assoc w.required (site ∷ []) (filter_map a_require found)
required_added (Assigns local ∷ found) w = required_added found (step (Assigns local) w)
required_added (Captures local ∷ found) w = required_added found (step (Captures local) w)
required_added (Means at meaning ∷ found) w = required_added found (step (Means at meaning) w)
required_added (Declares name declared function given ∷ found) w = required_added found (step (Declares name declared function given) w)
required_added (Continues at before ∷ found) w = required_added found (step (Continues at before) w)
required_added (Refuses why at ∷ found) w = required_added found (step (Refuses why at) w)

pub pending_added : (found : List Found) (w : Findings) → (added found w).pending ≡ w.pending ++ filter_map a_continue found
unfolding added
pending_added [] w = sym (append-nil w.pending)
pending_added (Continues at before ∷ found) w = pending_added found (step (Continues at before) w) ∙ append_assoc w.pending ((at, before) ∷ []) (filter_map a_continue found)
pending_added (RequiresModule site ∷ found) w = pending_added found (step (RequiresModule site) w)
pending_added (Assigns local ∷ found) w = pending_added found (step (Assigns local) w)
pending_added (Captures local ∷ found) w = pending_added found (step (Captures local) w)
pending_added (Means at meaning ∷ found) w = pending_added found (step (Means at meaning) w)
pending_added (Declares name declared function given ∷ found) w = pending_added found (step (Declares name declared function given) w)
pending_added (Refuses why at ∷ found) w = pending_added found (step (Refuses why at) w)

-- ## Without the `continue`s

-- which `continue`s stand before plays no part
pub without_own_added : (found : List Found) (pending : List (Span × ℕ)) (w : Findings)
    → added (without_continues found) (record w { pending = pending }) ≡ record (added found w) { pending = pending }
unfolding added
without_own_added [] pending w = refl
without_own_added (Continues at before ∷ found) pending w = without_own_added found pending (step (Continues at before) w)
without_own_added (RequiresModule site ∷ found) pending w = without_own_added found pending (step (RequiresModule site) w)
without_own_added (Assigns local ∷ found) pending w = without_own_added found pending (step (Assigns local) w)
without_own_added (Captures local ∷ found) pending w = without_own_added found pending (step (Captures local) w)
without_own_added (Means at meaning ∷ found) pending w = without_own_added found pending (step (Means at meaning) w)
without_own_added (Declares name declared function given ∷ found) pending w = without_own_added found pending (step (Declares name declared function given) w)
without_own_added (Refuses why at ∷ found) pending w = without_own_added found pending (step (Refuses why at) w)

-- ## The reach of an `until`

further : (before so_far local declared : ℕ)
    → nat_lt before (if nat_lt local declared then if nat_le so_far local then local + 1 else so_far else so_far)
    ≡ (nat_lt before so_far || (nat_le before local && nat_lt local declared))
further before so_far local declared = grind (arith, nat_tests)

or_assoc : (a b c : Bool) → ((a || b) || c) ≡ (a || (b || c))
or_assoc true b c = refl
or_assoc false b c = refl

or_false : (a : Bool) → (a || false) ≡ a
or_false true = refl
or_false false = refl

pub reached : (until : List Found) (before so_far declared : ℕ)
    → nat_lt before (reach_from so_far (filter_map a_use until) declared) ≡ (nat_lt before so_far || uses_between before declared until)
reached [] before so_far declared = sym (or_false (nat_lt before so_far))
reached (Means at (Local local) ∷ until) before so_far declared =
    reached until before (if nat_lt local.0 declared then if nat_le so_far local.0 then local.0 + 1 else so_far else so_far) declared
    ∙ ap (λ (b : Bool). b || uses_between before declared until) (further before so_far local.0 declared)
    ∙ or_assoc (nat_lt before so_far) (nat_le before local.0 && nat_lt local.0 declared) (uses_between before declared until)
reached (Means at (Builtin path) ∷ until) before so_far declared = reached until before so_far declared
reached (Means at Library ∷ until) before so_far declared = reached until before so_far declared
reached (Means at Global ∷ until) before so_far declared = reached until before so_far declared
reached (Declares name declared_at function given ∷ until) before so_far declared = reached until before so_far declared
reached (Captures local ∷ until) before so_far declared = reached until before so_far declared
reached (Assigns local ∷ until) before so_far declared = reached until before so_far declared
reached (RequiresModule site ∷ until) before so_far declared = reached until before so_far declared
reached (Continues at b ∷ until) before so_far declared = reached until before so_far declared
reached (Refuses why at ∷ until) before so_far declared = reached until before so_far declared

not_below_zero : (n : ℕ) → nat_lt n 0 ≡ false
not_below_zero n = grind (arith, nat_tests)

reached_from_none : (until : List Found) (before declared : ℕ) → nat_lt before (reach (filter_map a_use until) declared) ≡ uses_between before declared until
reached_from_none until before declared = reached until before 0 declared ∙ ap (λ (b : Bool). b || uses_between before declared until) (not_below_zero before)

pub passed : (body until : List Found) (declared : ℕ) → passed_by (reach (filter_map a_use until) declared) (filter_map a_continue body) ≡ past_locals body until declared
passed [] until declared = refl
passed (Continues at before ∷ body) until declared =
    ap (λ (b : Bool). (if b then Refuses ContinuePastLocal at ∷ [] else []) ++ passed_by (reach (filter_map a_use until) declared) (filter_map a_continue body)) (reached_from_none until before declared)
    ∙ ap (λ (xs : List Found). (if uses_between before declared until then Refuses ContinuePastLocal at ∷ [] else []) ++ xs) (passed body until declared)
passed (Declares name declared_at function given ∷ body) until declared = passed body until declared
passed (Means at meaning ∷ body) until declared = passed body until declared
passed (Captures local ∷ body) until declared = passed body until declared
passed (Assigns local ∷ body) until declared = passed body until declared
passed (RequiresModule site ∷ body) until declared = passed body until declared
passed (Refuses why at ∷ body) until declared = passed body until declared

-- ## The earliest refusal

-- the earlier of two, where there are
abbrev pub merged : Option Refused → Option Refused → Option Refused
merged None found = found
merged (Some r) None = Some r
merged (Some r) (Some s) = Some (earlier_of r s)

before_trans : (a b c p q r : ℕ) → (nat_lt a b || (a == b && nat_lt p q)) ≡ true → (nat_lt b c || (b == c && nat_lt q r)) ≡ true → (nat_lt a c || (a == c && nat_lt p r)) ≡ true
before_trans a b c p q r e f = grind (arith, nat_tests)

before_split : (a b c p q r : ℕ) → (nat_lt a c || (a == c && nat_lt p r)) ≡ true → (nat_lt a b || (a == b && nat_lt p q)) ≡ false → (nat_lt b c || (b == c && nat_lt q r)) ≡ true
before_split a b c p q r e f = grind (arith, nat_tests)

yes : (r s : Refused) → comes_before s r ≡ true → earlier_of r s ≡ s
yes r s e = ap (λ (b : Bool). if b then s else r) e

no : (r s : Refused) → comes_before s r ≡ false → earlier_of r s ≡ r
no r s e = ap (λ (b : Bool). if b then s else r) e

assoc_by : (q r s : Refused) (rq sr sq : Bool) → comes_before r q ≡ rq → comes_before s r ≡ sr → comes_before s q ≡ sq → earlier_of (earlier_of q r) s ≡ earlier_of q (earlier_of r s)
assoc_by q r s true true sq a b c =
    ap (λ (t : Refused). earlier_of t s) (yes q r a) ∙ yes r s b
    ∙ sym (ap (λ (t : Refused). earlier_of q t) (yes r s b) ∙ yes q s (before_trans s.1.start r.1.start q.1.start (rank s.0) (rank r.0) (rank q.0) b a))
assoc_by q r s true false sq a b c =
    ap (λ (t : Refused). earlier_of t s) (yes q r a) ∙ no r s b ∙ sym (ap (λ (t : Refused). earlier_of q t) (no r s b) ∙ yes q r a)
assoc_by q r s false true sq a b c = ap (λ (t : Refused). earlier_of t s) (no q r a) ∙ sym (ap (λ (t : Refused). earlier_of q t) (yes r s b))
assoc_by q r s false false true a b c =
    absurd (false≢true (sym a ∙ before_split s.1.start r.1.start q.1.start (rank s.0) (rank r.0) (rank q.0) c b))
assoc_by q r s false false false a b c =
    ap (λ (t : Refused). earlier_of t s) (no q r a) ∙ no q s c ∙ sym (ap (λ (t : Refused). earlier_of q t) (no r s b) ∙ no q r a)

earlier_assoc : (q r s : Refused) → earlier_of (earlier_of q r) s ≡ earlier_of q (earlier_of r s)
earlier_assoc q r s = assoc_by q r s _ _ _ refl refl refl

merge_noted : (before : Option Refused) (r : Refused) (found : Option Refused)
    → merged (noted before r) found ≡ merged before (elim found as (λ _. Option Refused) [ None ↦ Some r | Some s ↦ Some (earlier_of r s) ])
merge_noted None r None = refl
merge_noted None r (Some s) = refl
merge_noted (Some q) r None = refl
merge_noted (Some q) r (Some s) = ap Some (earlier_assoc q r s)

merge_none : (before : Option Refused) → merged before None ≡ before
merge_none None = refl
merge_none (Some r) = refl

pub refusal_added : (found : List Found) (w : Findings) → (added found w).refusal ≡ merged w.refusal (earliest (refusals found))
unfolding added
refusal_added [] w = sym (merge_none w.refusal)
refusal_added (Refuses why at ∷ found) w = refusal_added found (step (Refuses why at) w) ∙ merge_noted w.refusal (why, at) (earliest (refusals found))
refusal_added (Continues at before ∷ found) w = refusal_added found (step (Continues at before) w)
refusal_added (RequiresModule site ∷ found) w = refusal_added found (step (RequiresModule site) w)
refusal_added (Assigns local ∷ found) w = refusal_added found (step (Assigns local) w)
refusal_added (Captures local ∷ found) w = refusal_added found (step (Captures local) w)
refusal_added (Means at meaning ∷ found) w = refusal_added found (step (Means at meaning) w)
refusal_added (Declares name declared function given ∷ found) w = refusal_added found (step (Declares name declared function given) w)

-- ## Locals

-- the local that a finding declares
abbrev pub a_declared : Found → Option Declared
a_declared (Declares name declared function given) = Some (record { name = name; declared = declared; function = function; given = given })
a_declared _ = None

pub declared_added : (found : List Found) (w : Findings) → (added found w).locals ≡ w.locals ++ filter_map a_declared found
unfolding added
declared_added [] w = sym (append-nil w.locals)
declared_added (Declares name declared function given ∷ found) w = declared_added found (step (Declares name declared function given) w) ∙ append_assoc w.locals (record { name = name; declared = declared; function = function; given = given } ∷ []) (filter_map a_declared found)
declared_added (Continues at before ∷ found) w = declared_added found (step (Continues at before) w)
declared_added (RequiresModule site ∷ found) w = declared_added found (step (RequiresModule site) w)
declared_added (Assigns local ∷ found) w = declared_added found (step (Assigns local) w)
declared_added (Captures local ∷ found) w = declared_added found (step (Captures local) w)
declared_added (Means at meaning ∷ found) w = declared_added found (step (Means at meaning) w)
declared_added (Refuses why at ∷ found) w = declared_added found (step (Refuses why at) w)

pub marked_found : (assigned captured : List ℕ) (n : ℕ) (found : List Found) → marked assigned captured n (filter_map a_declared found) ≡ locals_from assigned captured n found
marked_found assigned captured n [] = refl
marked_found assigned captured n (Declares name declared function given ∷ found) =
    ap (λ (locals : List LocalInfo). marked_one assigned captured n (record { name = name; declared = declared; function = function; given = given }) ∷ locals)
    (ap (λ (m : ℕ). marked assigned captured m (filter_map a_declared found)) (add-one n) ∙ marked_found assigned captured (suc n) found)
marked_found assigned captured n (Continues at before ∷ found) = marked_found assigned captured n found
marked_found assigned captured n (RequiresModule site ∷ found) = marked_found assigned captured n found
marked_found assigned captured n (Assigns local ∷ found) = marked_found assigned captured n found
marked_found assigned captured n (Captures local ∷ found) = marked_found assigned captured n found
marked_found assigned captured n (Means at meaning ∷ found) = marked_found assigned captured n found
marked_found assigned captured n (Refuses why at ∷ found) = marked_found assigned captured n found

-- ## A module

-- what a reading says, from all findings
pub record IsReadOf (found : List Found) (w : Findings) : Type 0 where
  pub refusal : w.refusal ≡ earliest (refusals found)
  pub uses : w.uses ≡ filter_map a_use found
  pub required : w.required ≡ filter_map a_require found
  pub locals : marked w.assigned w.captured 0 w.locals ≡ locals_in found

pub read_of : (found : List Found) (w : Findings) → w ≡ added found no_findings → IsReadOf found w
read_of found w e = rw e (record {
  refusal = refusal_added found no_findings;
  uses = uses_added found no_findings;
  required = required_added found no_findings;
  locals =
      rw (assigned_added found no_findings, captured_added found no_findings, declared_added found no_findings)
      (marked_found (filter_map an_assigned found) (filter_map a_captured found) 0 found);
})
