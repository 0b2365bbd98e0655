-- The order of reports is total, and only equal reports tie.
use Rattle.std.proofs.Common.{◌≡◌, ◌↔◌, ℕ, zero, suc, List, [], ◌∷◌, get_or, Contains, AllPairs, refl, ap, sym, ◌∙◌, map, subst, arith}
use Rattle.std.specs.declared.cmp.Ordering.{Ordering}
use Rattle.std.specs.declared.cmp.Ordering.TheVariants.{Less, Equal, Greater}
use Rattle.std.specs.Ordering.{ordering_then}
use Rattle.std.specs.Cmp.{IsTotalOrder, nat_cmp_total, on_total, then_total}
use Rattle.std.specs.Cmp.Lexicographic.{nat_list_cmp_total}
use Rattle.std.specs.FinMap.{IsAntisymmetric, nat_cmp-IsAntisymmetric, slice_cmp-IsAntisymmetric}
use Rattle.luau_tree.specs.declared.names.UnOp.{UnOp}
use Rattle.luau_tree.specs.declared.names.UnOp.TheVariants.{Minus, Not, Length}
use Rattle.luau_tree.specs.declared.names.BinOp.{BinOp}
use Rattle.luau_tree.specs.declared.names.Op.{Op}
use Rattle.luau_tree.specs.declared.names.Op.TheVariants.{Call, Index, Write, For, Iterate, Unary, Binary}
use Rattle.luau_tree.specs.declared.names.Place.{Place}
use Rattle.luau_tree.specs.declared.names.Place.TheVariants.{Expr, Param}
use Rattle.luau_tree.specs.Sorted.{bytes_cmp}
use Rattle.luau_tree.proofs.SortedLemmas.{in_order, all_there, no_other, determined}
use Rattle.report_rules.specs.Checks.{ReportKind, Argument, Missing, Operand, ValueOf, ParameterOf}
use Rattle.report_rules.specs.Messages.{message}
use Rattle.report_rules.specs.Reports.{Report, reported_places}
use Rattle.report_rules.specs.Printed.{kind_rank, place_rank, place_number, place_position, place_cmp, kind_position, kind_name, kind_op, kind_cmp, op_rank, report_cmp, printed}

pub place_cmp_total : IsTotalOrder place_cmp
place_cmp_total = then_total (on_total place_rank nat_cmp_total) (then_total (on_total place_number nat_cmp_total) (on_total place_position nat_cmp_total))

kind_cmp_total : IsTotalOrder kind_cmp
kind_cmp_total = then_total (on_total kind_position nat_cmp_total) (then_total (on_total kind_name nat_list_cmp_total) (on_total kind_op nat_cmp_total))

pub report_cmp_total : IsTotalOrder report_cmp
report_cmp_total =
    then_total (on_total (λ r. r.at.start) nat_cmp_total)
    (then_total (on_total (λ r. kind_rank r.kind) nat_cmp_total)
    (then_total (on_total (λ r. message r.kind) nat_list_cmp_total)
    (then_total (on_total (λ r. r.place) place_cmp_total)
    (then_total (on_total (λ r. r.at.end) nat_cmp_total) (on_total (λ r. r.kind) kind_cmp_total)))))

-- two orders tie where both do
both_equal : (r s : Ordering) → ordering_then r s ≡ Equal → (r ≡ Equal) × (s ≡ Equal)
both_equal Less s e = (e, cc)
both_equal Equal s e = (refl, e)
both_equal Greater s e = (e, cc)

same_bytes : IsAntisymmetric bytes_cmp
same_bytes = slice_cmp-IsAntisymmetric nat_cmp-IsAntisymmetric

-- a place is known by its rank, its number and its position
place_at : (rank number position : ℕ) → Place
place_at zero number position = Expr (record { 0 = number })
place_at (suc rank) number position = Param (record { 0 = number }) position

place_again : (p : Place) → place_at (place_rank p) (place_number p) (place_position p) ≡ p
unfolding place_at
place_again (Expr id) = refl
place_again (Param function index) = refl

same_place : IsAntisymmetric place_cmp
same_place a b e =
    let p = both_equal _ _ e in
    let q = both_equal _ _ p.1 in
    let rank = nat_cmp-IsAntisymmetric (place_rank a) (place_rank b) p.0 in
    let number = nat_cmp-IsAntisymmetric (place_number a) (place_number b) q.0 in
    let position = nat_cmp-IsAntisymmetric (place_position a) (place_position b) q.1 in
    sym (place_again a) ∙ (λ i. place_at (rank i) (number i) (position i)) ∙ place_again b

-- an operator is known by its rank
op_at : ℕ → Op
op_at n =
    get_or
    (Call ∷ Index ∷ Write ∷ For ∷ Iterate ∷ Unary Minus ∷ Unary Not ∷ Unary Length ∷ Binary BinOp.Or ∷ Binary BinOp.And ∷ Binary BinOp.Less
    ∷ Binary BinOp.Greater ∷ Binary BinOp.LessEqual ∷ Binary BinOp.GreaterEqual ∷ Binary BinOp.NotEqual ∷ Binary BinOp.Equal ∷ Binary BinOp.Concat
    ∷ Binary BinOp.Add ∷ Binary BinOp.Sub ∷ Binary BinOp.Mul ∷ Binary BinOp.Div ∷ Binary BinOp.FloorDiv ∷ Binary BinOp.Mod ∷ Binary BinOp.Pow ∷ [])
    n Call

unary_again : (op : UnOp) → op_at (op_rank (Unary op)) ≡ Unary op
unfolding op_at
unary_again Minus = refl
unary_again Not = refl
unary_again Length = refl

binary_again : (op : BinOp) → op_at (op_rank (Binary op)) ≡ Binary op
unfolding op_at
binary_again BinOp.Or = refl
binary_again BinOp.And = refl
binary_again BinOp.Less = refl
binary_again BinOp.Greater = refl
binary_again BinOp.LessEqual = refl
binary_again BinOp.GreaterEqual = refl
binary_again BinOp.NotEqual = refl
binary_again BinOp.Equal = refl
binary_again BinOp.Concat = refl
binary_again BinOp.Add = refl
binary_again BinOp.Sub = refl
binary_again BinOp.Mul = refl
binary_again BinOp.Div = refl
binary_again BinOp.FloorDiv = refl
binary_again BinOp.Mod = refl
binary_again BinOp.Pow = refl

op_again : (op : Op) → op_at (op_rank op) ≡ op
unfolding op_at
op_again Call = refl
op_again Index = refl
op_again Write = refl
op_again For = refl
op_again Iterate = refl
op_again (Unary op) = unary_again op
op_again (Binary op) = binary_again op

-- a kind is known by its rank, its position, its name and its operator
kind_at : (rank position : ℕ) (name : List ℕ) (op : ℕ) → ReportKind
kind_at zero position name op = Argument position name
kind_at (suc zero) position name op = Missing position name
kind_at (suc (suc zero)) position name op = Operand (op_at op)
kind_at (suc (suc (suc zero))) position name op = ValueOf name
kind_at (suc (suc (suc (suc rank)))) position name op = ParameterOf name

kind_again : (k : ReportKind) → kind_at (kind_rank k) (kind_position k) (kind_name k) (kind_op k) ≡ k
unfolding kind_at
kind_again (Argument index path) = refl
kind_again (Missing index path) = refl
kind_again (Operand op) = ap Operand (op_again op)
kind_again (ValueOf name) = refl
kind_again (ParameterOf name) = refl

same_kind : (a b : ReportKind) → kind_rank a ≡ kind_rank b → kind_cmp a b ≡ Equal → a ≡ b
same_kind a b rank e =
    let p = both_equal _ _ e in
    let q = both_equal _ _ p.1 in
    let position = nat_cmp-IsAntisymmetric (kind_position a) (kind_position b) p.0 in
    let name = same_bytes (kind_name a) (kind_name b) q.0 in
    let op = nat_cmp-IsAntisymmetric (kind_op a) (kind_op b) q.1 in
    sym (kind_again a) ∙ (λ i. kind_at (rank i) (position i) (name i) (op i)) ∙ kind_again b

-- reports that tie are equal
pub same_report : IsAntisymmetric report_cmp
same_report a b e =
    let start = both_equal _ _ e in
    let kind = both_equal _ _ start.1 in
    let message = both_equal _ _ kind.1 in
    let place = both_equal _ _ message.1 in
    let end = both_equal _ _ place.1 in
    let same_start = nat_cmp-IsAntisymmetric a.at.start b.at.start start.0 in
    let same_end = nat_cmp-IsAntisymmetric a.at.end b.at.end end.0 in
    let where_ = same_place a.place b.place place.0 in
    let what = same_kind a.kind b.kind (nat_cmp-IsAntisymmetric (kind_rank a.kind) (kind_rank b.kind) kind.0) end.1 in
    λ i. record { place = where_ i; at = record { start = same_start i; end = same_end i }; kind = what i }

pub printed_in_order : (reports : List Report) → AllPairs (λ a b. report_cmp a b ≡ Less) (printed reports)
printed_in_order reports = in_order report_cmp_total reports

pub printed_same : (reports : List Report) (report : Report) → (Contains (printed reports) report ↔ Contains reports report)
printed_same reports report = (no_other report_cmp_total same_report reports report, all_there report_cmp_total same_report reports report)

pub printed_alone : (reports other : List Report) → AllPairs (λ a b. report_cmp a b ≡ Less) other
    → ((report : Report) → (Contains other report ↔ Contains reports report)) → other ≡ printed reports
printed_alone reports other s same = determined report_cmp_total same_report reports other s (λ q. (same q).0) (λ q. (same q).1)

-- what a list has, and what it has of a function of its values
first : {X : Type 0} (x : X) (xs : List X) → Contains (x ∷ xs) x
first x xs = (zero, omega arith, refl)

further : {X : Type 0} (x y : X) (xs : List X) → Contains xs y → Contains (x ∷ xs) y
further x y xs (i, within, e) = (suc i, omega arith, e)

to_map : {X Y : Type 0} (f : X → Y) (xs : List X) (x : X) → Contains xs x → Contains (map f xs) (f x)
to_map f [] x (i, within, e) = absurd (omega arith)
to_map f (y ∷ xs) x (zero, within, e) = (zero, omega arith, ap f e)
to_map f (y ∷ xs) x (suc i, within, e) = further (f y) (f x) (map f xs) (to_map f xs x (i, omega arith, e))

from_map : {X Y : Type 0} (f : X → Y) (xs : List X) (y : Y) → Contains (map f xs) y → (x : X) × Contains xs x × (f x ≡ y)
from_map f [] y (i, within, e) = absurd (omega arith)
from_map f (x ∷ xs) y (zero, within, e) = (x, first x xs, e)
from_map f (x ∷ xs) y (suc i, within, e) =
    let found = from_map f xs y (i, omega arith, e) in
    (found.0, further x found.0 xs found.1, found.2)

pub same_places : (module_at : ℕ) (reports : List Report) (place : ℕ × Place)
    → (Contains (reported_places module_at (printed reports)) place ↔ Contains (reported_places module_at reports) place)
same_places module_at reports place =
    let at : Report → ℕ × Place = λ report. (module_at, report.place) in (
      λ c.
          let found = from_map at (printed reports) place c in
          subst (λ p. Contains (reported_places module_at reports) p) found.2 (to_map at reports found.0 ((printed_same reports found.0).0 found.1)),
      λ c.
          let found = from_map at reports place c in
          subst (λ p. Contains (reported_places module_at (printed reports)) p) found.2
          (to_map at (printed reports) found.0 ((printed_same reports found.0).1 found.1)),
    )
