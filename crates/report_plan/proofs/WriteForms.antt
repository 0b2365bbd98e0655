-- What declarations, assignments and their targets are made of.
use Rattle.std.specs.Prelude.{Option, Some, None}
use Rattle.std.proofs.Common.{◌≡◌, ℕ, Bool, true, false, List, [], ◌∷◌, ◌++◌, map, refl, sym, ap, subst, ◌∙◌}
use Rattle.luau_tree.specs.declared.position.Span.{Span}
use Rattle.luau_tree.specs.declared.names.BinOp.{BinOp}
use Rattle.luau_tree.specs.declared.names.Place.TheVariants.{Expr as ExprPlace}
use Rattle.luau_tree.specs.Tree.{the_stat, Assign, Compound, Local, Expr, the_expr, ExprKind, Exprs, no_exprs, more_exprs, StrExpr, NameExpr, Index, At, Bind, the_bind, Binds, no_binds, more_binds}
use Rattle.type_arena.specs.Term.{Term, never}
use Rattle.report_rules.specs.Rules.{Rules}
use Rattle.report_rules.specs.Effects.{Target, OfLocal, OfGlobal, OfField, OfElement, target_of, targets_of, any_effects, effects, locals_of_binds}
use Rattle.report_rules.specs.Seen.{Seen}
use Rattle.report_rules.specs.Context.{Context, none, join, pass, without}
use Rattle.report_rules.specs.Statements.{Wanted, wanted_of_binds, wanted_of_local, wanted_of_target, wanted_of_targets, value_kinds, write_kinds, first_wanted, rest_wanted, ev_values, ev_target, ev_targets, ev_compound, before_write, before_writes, for_values, values_context, old_left, added_kinds, old_kinds}
use Rattle.report_rules.specs.Checks.{ReportKind}
use Rattle.report_rules.specs.Findings.{compound_kinds, Finding, found, found_in, found_values, found_target, found_targets, found_compound}
use Rattle.report_rules.specs.Reports.{Report, reports_of}
use Rattle.report_work.specs.Work.{Work}
use Rattle.report_work.specs.Moves.{reported, met, unfailing, asked_one, behind_by, behind_kept, behind_dropped, kept_for_value, kept_for_values, written}
use Rattle.report_work.specs.Checks.{Check, Unchecked, WrittenBase, ChangedBase, OldOf, AddedTo, ValueFor, Named, named_with, named_of_target, wanted_by}
use Rattle.report_work.specs.Expressions.{before_target, before_compound, with_ev, with_ev_name, before, each, asked_as, asked_changed, asked_changed_element}
use Rattle.report_work.specs.Found.{found_as, found_there, found_parts_as}
use Rattle.report_work.specs.Statements.{passed, each_value, named_first, named_rest, each_written, each_kept, named_of_binds, named_of_targets, with_target, with_compound, undeclared, with_stat}
use Rattle.report_plan.specs.Keys.{key_name}
use Rattle.report_plan.proofs.FoundForms.{reports_both}
use Rattle.report_plan.proofs.StatForms.{went, went_both}

-- ## Values

values_gone : (rules : Rules) (seen : List Seen) (names : List (Option Named)) (es : Exprs) (values : Context) (aside : List Context) (work : Work)
    → each_value rules seen names es (record work { aside = values ∷ aside })
    ≡ went (ev_values rules seen (map (wanted_by values) names) es work.behind) (found_values rules seen (map (wanted_by values) names) es) (record work { aside = values ∷ aside })
values_gone rules seen names no_exprs values aside work = refl
values_gone rules seen [] (more_exprs e rest) values aside work =
    ap (passed rules seen (ValueFor None) e) (values_gone rules seen [] rest values aside work)
    ∙ went_both _ (found rules seen [] e) (found_values rules seen [] rest) (record work { aside = values ∷ aside })
values_gone rules seen (named ∷ names) (more_exprs e rest) values aside work =
    ap (passed rules seen (ValueFor named) e) (values_gone rules seen names rest values aside work)
    ∙ went_both _ (found rules seen (value_kinds seen e (wanted_by values named)) e) (found_values rules seen (map (wanted_by values) names) rest) (record work { aside = values ∷ aside })

binds_wanted : (rules : Rules) (values : Context) (binds : Binds) → map (wanted_by values) (named_of_binds rules binds) ≡ wanted_of_binds rules values binds
binds_wanted rules values no_binds = refl
binds_wanted rules values (more_binds (the_bind name span typ) rest) =
    ap (λ (more : List (Option Wanted)). Some (record { name = name; set = values (rules.reading.local_at span.start) }) ∷ more) (binds_wanted rules values rest)

local_wanted : (values : Context) (name : List ℕ) (local : Option ℕ) → wanted_by values (named_with name local) ≡ wanted_of_local values name local
local_wanted values name None = refl
local_wanted values name (Some local) = refl

target_wanted : (rules : Rules) (values : Context) (e : Expr) → wanted_by values (named_of_target rules e) ≡ wanted_of_target rules values e
target_wanted rules values (the_expr id span (NameExpr name)) = local_wanted values name _
target_wanted rules values (the_expr id span _) = refl

targets_wanted : (rules : Rules) (values : Context) (targets : Exprs) → map (wanted_by values) (named_of_targets rules targets) ≡ wanted_of_targets rules values targets
targets_wanted rules values no_exprs = refl
targets_wanted rules values (more_exprs e rest) =
    ap (λ (first : Option Wanted). first ∷ map (wanted_by values) (named_of_targets rules rest)) (target_wanted rules values e)
    ∙ ap (λ (more : List (Option Wanted)). wanted_of_target rules values e ∷ more) (targets_wanted rules values rest)

pub local_form : (rules : Rules) (seen : List Seen) (span : Span) (binds : Binds) (values : Exprs) (work : Work)
    → behind_dropped (each_value rules seen (named_of_binds rules binds) values (undeclared rules binds (kept_for_values (any_effects rules values) (behind_kept work))))
    ≡ with_stat rules seen (the_stat span (Local binds values)) work
local_form rules seen span binds values work =
    let kept = values_context rules [] values work.behind in
    let behind = without (locals_of_binds rules binds) work.behind in
    ap behind_dropped (values_gone rules seen (named_of_binds rules binds) values kept work.aside (record work { behind = behind }))
    ∙ ap (λ (wanted : List (Option Wanted)). went (ev_values rules seen wanted values behind) (found_values rules seen wanted values) work) (binds_wanted rules kept binds)

-- ## Writes

kept_gone : (targets : List Target) (values : Context) (aside : List Context) (work : Work)
    → each_kept targets (record work { aside = values ∷ aside }) ≡ record work { aside = for_values targets values ∷ aside }
kept_gone [] values aside work = refl
kept_gone (OfLocal local ∷ targets) values aside work = kept_gone targets _ aside work
kept_gone (OfGlobal ∷ targets) values aside work = kept_gone targets _ aside work
kept_gone (OfField base name ∷ targets) values aside work = kept_gone targets _ aside work
kept_gone (OfElement ∷ targets) values aside work = kept_gone targets _ aside work

written_gone : (targets : List Target) (behind : Context) (work : Work) → each_written targets (record work { behind = behind }) ≡ record work { behind = before_writes targets behind }
written_gone [] behind work = refl
written_gone (target ∷ targets) behind work = written_gone targets (before_write target behind) work

targets_gone : (rules : Rules) (seen : List Seen) (targets : Exprs) (work : Work)
    → each (with_target rules seen) targets work ≡ went (ev_targets rules seen targets work.behind) (found_targets rules seen targets) work
targets_gone rules seen no_exprs work = refl
targets_gone rules seen (more_exprs e rest) work =
    ap (with_target rules seen e) (targets_gone rules seen rest work) ∙ went_both _ (found_target rules seen [] e) (found_targets rules seen rest) work

pub assign_form : (rules : Rules) (seen : List Seen) (span : Span) (targets values : Exprs) (work : Work)
    → each (with_target rules seen) targets (behind_dropped (each_value rules seen (named_of_targets rules targets) values
    (each_written (targets_of rules targets) (kept_for_values (any_effects rules values) (each_kept (targets_of rules targets) (behind_kept work))))))
    ≡ with_stat rules seen (the_stat span (Assign targets values)) work
assign_form rules seen span targets values work =
    let written_to = targets_of rules targets in
    let kept = values_context rules written_to values work.behind in
    let behind = before_writes written_to work.behind in
    let wanted = wanted_of_targets rules kept targets in
    ap (λ (w : Work). each (with_target rules seen) targets (behind_dropped (each_value rules seen (named_of_targets rules targets) values (each_written written_to (kept_for_values (any_effects rules values) w)))))
    (kept_gone written_to work.behind work.aside work)
    ∙ ap (λ (w : Work). each (with_target rules seen) targets (behind_dropped (each_value rules seen (named_of_targets rules targets) values w)))
    (written_gone written_to work.behind (record work { aside = kept ∷ work.aside }))
    ∙ ap (λ (w : Work). each (with_target rules seen) targets (behind_dropped w))
    (values_gone rules seen (named_of_targets rules targets) values kept work.aside (record work { behind = behind }))
    ∙ ap (λ (ws : List (Option Wanted)). each (with_target rules seen) targets (went (ev_values rules seen ws values behind) (found_values rules seen ws values) work)) (targets_wanted rules kept targets)
    ∙ targets_gone rules seen targets (went (ev_values rules seen wanted values behind) (found_values rules seen wanted values) work)
    ∙ went_both (ev_targets rules seen targets (ev_values rules seen wanted values behind)) (found_targets rules seen targets) (found_values rules seen wanted values) work

pub compound_form : (rules : Rules) (seen : List Seen) (span : Span) (target : Expr) (op : BinOp) (e : Expr) (work : Work)
    → with_compound rules seen op e target (passed rules seen (AddedTo op target) e (written (target_of rules target) work)) ≡ with_stat rules seen (the_stat span (Compound target op e)) work
compound_form rules seen span target op e work =
    went_both _ (found_compound rules seen (old_kinds seen target op e) target) (found rules seen (added_kinds seen target op e) e) work

-- ## Targets

-- what is found at a place and in its parts
target_gone : (rules : Rules) (seen : List Seen) (kinds : List ReportKind) (of : Expr → List ReportKind) (id : ℕ) (span : Span) (kind : ExprKind) (context : Context) (work : Work)
    → (let there : Finding = record { place = ExprPlace (record { 0 = id }); at = span; kinds = kinds } in
    reported (there ∷ []) (went context (found_in rules seen of kind) work) ≡ went context (there ∷ found_in rules seen of kind) work)
target_gone rules seen kinds of id span kind context work =
    went_both context (record { place = ExprPlace (record { 0 = id }); at = span; kinds = kinds } ∷ []) (found_in rules seen of kind) work

pub target_form : (rules : Rules) (seen : List Seen) (e : Expr) (work : Work)
    → found_there rules seen Unchecked e (found_parts_as rules seen WrittenBase e (before_target rules seen e work)) ≡ with_target rules seen e work
target_form rules seen (the_expr id span kind) work = target_gone rules seen [] (write_kinds seen) id span kind (ev_target rules seen (the_expr id span kind) work.behind) work

pub index_target : (rules : Rules) (seen : List Seen) (id : ℕ) (span : Span) (base : Expr) (name : List ℕ) (work : Work)
    → before rules seen WrittenBase base work ≡ before_target rules seen (the_expr id span (Index base name)) work
index_target rules seen id span base name work = refl

pub at_target : (rules : Rules) (seen : List Seen) (id : ℕ) (span : Span) (base key : Expr) (work : Work)
    → before rules seen WrittenBase base (before rules seen Unchecked key work) ≡ before_target rules seen (the_expr id span (At base key)) work
at_target rules seen id span base key work = refl

pub other_target : (rules : Rules) (seen : List Seen) (e : Expr) (work : Work)
    → ((behind : Context) → ev_target rules seen e behind ≡ behind) → work ≡ before_target rules seen e work
other_target rules seen e work same = ap (λ (context : Context). record work { behind = context }) (sym (same work.behind))

-- ## Targets of compounds

pub compound_target : (rules : Rules) (seen : List Seen) (op : BinOp) (added : Expr) (e : Expr) (work : Work)
    → found_there rules seen (OldOf op added) e (found_parts_as rules seen ChangedBase e (before_compound rules seen op added e work)) ≡ with_compound rules seen op added e work
compound_target rules seen op added (the_expr id span kind) work =
    let e = the_expr id span kind in
    target_gone rules seen (old_kinds seen e op added) (compound_kinds seen) id span kind (ev_compound rules seen e (old_left seen e op added) work.behind) work

index_compound_form : (rules : Rules) (seen : List Seen) (op : BinOp) (added : Expr) (id : ℕ) (span : Span) (base : Expr) (name : List ℕ) (work : Work)
    → (let e = the_expr id span (Index base name) in
    met (effects rules base) (with_ev rules seen base (asked_changed seen base name (asked_as rules seen (OldOf op added) e work))) ≡ before_compound rules seen op added e work)
index_compound_form rules seen op added id span base name work = refl

named_compound_form : (rules : Rules) (seen : List Seen) (op : BinOp) (added : Expr) (id : ℕ) (span : Span) (base key : Expr) (name : List ℕ) (work : Work) → Some name ≡ key_name key
    → (let e = the_expr id span (At base key) in
    met (effects rules base) (with_ev rules seen base (asked_changed seen base name (asked_as rules seen (OldOf op added) e work))) ≡ before_compound rules seen op added e work)
named_compound_form rules seen op added id span base (the_expr key_id key_span (StrExpr written)) name work is =
    let same : name ≡ written = cc in
    let e = the_expr id span (At base (the_expr key_id key_span (StrExpr written))) in
    ap (λ (n : List ℕ). met (effects rules base) (with_ev rules seen base (asked_changed seen base n (asked_as rules seen (OldOf op added) e work)))) same
named_compound_form rules seen op added id span base (the_expr key_id key_span _) name work is = cc

element_compound_form : (rules : Rules) (seen : List Seen) (op : BinOp) (added : Expr) (id : ℕ) (span : Span) (base key : Expr) (work : Work) → None ≡ key_name key
    → met (effects rules base) (with_ev rules seen base (asked_changed_element seen base (before rules seen Unchecked key work))) ≡ before_compound rules seen op added (the_expr id span (At base key)) work
element_compound_form rules seen op added id span base (the_expr key_id key_span (StrExpr written)) work is = cc
element_compound_form rules seen op added id span base (the_expr key_id key_span _) work is = refl

name_compound_form : (rules : Rules) (seen : List Seen) (op : BinOp) (added : Expr) (id : ℕ) (span : Span) (name : List ℕ) (work : Work)
    → (let e = the_expr id span (NameExpr name) in
    met false (with_ev_name rules e (asked_as rules seen (OldOf op added) e work)) ≡ before_compound rules seen op added e work)
name_compound_form rules seen op added id span name work = refl

-- the same, where an expression is known by its form
pub index_compound : (rules : Rules) (seen : List Seen) (op : BinOp) (added e : Expr) (id : ℕ) (span : Span) (base : Expr) (name : List ℕ) (work : Work) → e ≡ the_expr id span (Index base name)
    → met (effects rules base) (with_ev rules seen base (asked_changed seen base name (asked_as rules seen (OldOf op added) e work))) ≡ before_compound rules seen op added e work
index_compound rules seen op added e id span base name work is =
    subst (λ (x : Expr). met (effects rules base) (with_ev rules seen base (asked_changed seen base name (asked_as rules seen (OldOf op added) x work))) ≡ before_compound rules seen op added x work)
    (sym is) (index_compound_form rules seen op added id span base name work)

pub named_compound : (rules : Rules) (seen : List Seen) (op : BinOp) (added e : Expr) (id : ℕ) (span : Span) (base key : Expr) (name : List ℕ) (work : Work) → e ≡ the_expr id span (At base key) → Some name ≡ key_name key
    → met (effects rules base) (with_ev rules seen base (asked_changed seen base name (asked_as rules seen (OldOf op added) e work))) ≡ before_compound rules seen op added e work
named_compound rules seen op added e id span base key name work is named =
    subst (λ (x : Expr). met (effects rules base) (with_ev rules seen base (asked_changed seen base name (asked_as rules seen (OldOf op added) x work))) ≡ before_compound rules seen op added x work)
    (sym is) (named_compound_form rules seen op added id span base key name work named)

pub element_compound : (rules : Rules) (seen : List Seen) (op : BinOp) (added e : Expr) (id : ℕ) (span : Span) (base key : Expr) (work : Work) → e ≡ the_expr id span (At base key) → None ≡ key_name key
    → met (effects rules base) (with_ev rules seen base (asked_changed_element seen base (before rules seen Unchecked key work))) ≡ before_compound rules seen op added e work
element_compound rules seen op added e id span base key work is unnamed =
    element_compound_form rules seen op added id span base key work unnamed ∙ ap (λ (x : Expr). before_compound rules seen op added x work) (sym is)

pub name_compound : (rules : Rules) (seen : List Seen) (op : BinOp) (added e : Expr) (id : ℕ) (span : Span) (name : List ℕ) (work : Work) → e ≡ the_expr id span (NameExpr name)
    → met false (with_ev_name rules e (asked_as rules seen (OldOf op added) e work)) ≡ before_compound rules seen op added e work
name_compound rules seen op added e id span name work is =
    subst (λ (x : Expr). met false (with_ev_name rules x (asked_as rules seen (OldOf op added) x work)) ≡ before_compound rules seen op added x work) (sym is) (name_compound_form rules seen op added id span name work)

pub other_compound : (rules : Rules) (seen : List Seen) (op : BinOp) (added : Expr) (e : Expr) (work : Work)
    → ((old : Term) (behind : Context) → ev_compound rules seen e old behind ≡ join none behind)
    → met false (unfailing (asked_one never work)) ≡ before_compound rules seen op added e work
other_compound rules seen op added e work same = ap (λ (context : Context). record work { behind = context }) (sym (same (old_left seen e op added) work.behind))
