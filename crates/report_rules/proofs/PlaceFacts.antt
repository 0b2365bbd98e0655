-- What is reported is live, and what a module gives is heap-free.
use Rattle.std.proofs.Common.{◌≡◌, ◌≢◌, ℕ, Bool, true, false, not, ◌&&◌, List, [], ◌∷◌, if◌then◌else◌, refl, sym, true≢false}
use Rattle.luau_tree.specs.Tree.{Expr, Bind, the_bind}
use Rattle.luau_run.specs.Statements.{place_of}
use Rattle.type_arena.specs.Term.{Term}
use Rattle.type_normal.specs.Rows.{is_empty}
use Rattle.type_normal.specs.Operations.{union}
use Rattle.type_normal.specs.Kinds.{nil_type}
use Rattle.type_normal.specs.HeapFree.{heap_free, widen}
use Rattle.type_normal.proofs.Public.{widen_free, cut_up_free}
use Rattle.subtype_check.specs.Below.{below}
use Rattle.subtype_check.proofs.Public.{below_chain}
use Rattle.report_rules.specs.Rules.{Rules, loose}
use Rattle.report_rules.specs.Effects.{effects}
use Rattle.report_rules.specs.TypeMap.{TypeMap, no_map}
use Rattle.report_rules.specs.Forward.{after, after_part}
use Rattle.report_rules.specs.After.{returned_block, after_block, where_live, summary}
use Rattle.report_rules.specs.Seen.{Seen, is_live}
use Rattle.report_rules.specs.Context.{Context}
use Rattle.report_rules.specs.Checks.{ReportKind, ParameterOf, type_of, check}
use Rattle.report_rules.specs.Findings.{parameter_kinds}

kept_by : (b : Bool) (m : TypeMap) → b ≡ false → after_part b m ≡ m
kept_by true m e = absurd (true≢false e)
kept_by false m e = refl

pub kept : (rules : Rules) (m : TypeMap) (e : Expr) → effects rules e ≡ false → after rules m e ≡ m
kept rules m e k = kept_by (effects rules e) m k

live_by : (a b : Bool) (kind : ReportKind) → (if a && b then kind ∷ [] else []) ≢ [] → a ≡ true
live_by true b kind h = refl
live_by false b kind h = absurd (h refl)

pub checked_live : (seen : List Seen) (e : Expr) (set : Term) (kind : ReportKind) → check seen e set kind ≢ [] → is_live seen (place_of e) ≡ true
checked_live seen e set kind h = live_by (is_live seen (place_of e)) (not (is_empty (type_of seen e)) && below (type_of seen e) set) kind h

pub summary_free : (rules : Rules) → heap_free (summary rules) ≡ true
summary_free rules =
    cut_up_free (widen (union (returned_block rules no_map rules.reading.block) (where_live (after_block rules no_map rules.reading.block) nil_type)))
    (widen_free (union (returned_block rules no_map rules.reading.block) (where_live (after_block rules no_map rules.reading.block) nil_type)))

more_by : (a b c d : Bool) (kind : ReportKind) → (c ≡ true → d ≡ true) → (if a && (b && c) then kind ∷ [] else []) ≢ []
    → (if a && (b && d) then kind ∷ [] else []) ≢ []
more_by true true true true kind h n = n
more_by true true true false kind h n = absurd (true≢false (sym (h refl)))
more_by true true false d kind h n = absurd (n refl)
more_by true false c d kind h n = absurd (n refl)
more_by false b c d kind h n = absurd (n refl)

pub larger_check : (seen : List Seen) (e : Expr) (small large : Term) (kind : ReportKind) → below small large ≡ true
    → check seen e small kind ≢ [] → check seen e large kind ≢ []
larger_check seen e small large kind k n =
    more_by (is_live seen (place_of e)) (not (is_empty (type_of seen e))) (below (type_of seen e) small) (below (type_of seen e) large) kind
    (λ h. below_chain (type_of seen e) small large h k) n

more_params_by : (a b c d f : Bool) (kind : ReportKind) → (d ≡ true → f ≡ true) → (if a && (b && (c && d)) then kind ∷ [] else []) ≢ []
    → (if a && (b && (c && f)) then kind ∷ [] else []) ≢ []
more_params_by true true c d f kind h n = more_by true c d f kind h n
more_params_by true false c d f kind h n = absurd (n refl)
more_params_by false b c d f kind h n = absurd (n refl)

pub larger_body : (rules : Rules) (live : Bool) (type : Term) (small large : Context) (bind : Bind)
    → ((x : ℕ) → below (small x) (large x) ≡ true) → parameter_kinds rules live type small bind ≢ [] → parameter_kinds rules live type large bind ≢ []
larger_body rules live type small large (the_bind name span typ) h n =
    more_params_by live (not (loose rules (rules.reading.local_at span.start))) (not (is_empty type))
    (below type (small (rules.reading.local_at span.start))) (below type (large (rules.reading.local_at span.start))) (ParameterOf name)
    (λ k. below_chain type (small (rules.reading.local_at span.start)) (large (rules.reading.local_at span.start)) k (h (rules.reading.local_at span.start))) n
