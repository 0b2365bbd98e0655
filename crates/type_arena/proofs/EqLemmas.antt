-- The test for equal nodes decides that they are equal.
use Rattle.std.proofs.Common.{◌≡◌, refl, ap, sym, ◌∙◌, true, false, Bool, List, ℕ}
use Rattle.std.specs.Prelude.{◌&&◌, ◌==◌}
use Rattle.std.specs.Bool.{Decides}
use Rattle.std.proofs.Math.Bool.{beq}
use Rattle.std.specs.Cmp.{booleans_Decides}
use Rattle.std.specs.Cmp.Lexicographic.{pointwise}
use Rattle.std.proofs.lemmas.Bool.Decides.{Decides-eqb, Decides-and}
use Rattle.std.proofs.lemmas.Slice.Eq.{slice_eq-Decides, bytes_eq-Decides}
use Rattle.type_arena.specs.declared.node.Among.{Among}
use Rattle.type_arena.specs.declared.node.Among.TheVariants.{Only, AllBut}
use Rattle.type_arena.specs.declared.node.FnName.{FnName}
use Rattle.type_arena.specs.declared.node.FnName.TheVariants.{Builtin, Literal}
use Rattle.type_arena.specs.declared.node.Node.{Node}
use Rattle.type_arena.specs.declared.node.Row.{Row}
use Rattle.type_arena.specs.declared.node.TypeRef.{TypeRef}
use Rattle.type_arena.specs.contracts.containers.Label
use Rattle.type_arena.specs.contracts.containers.LabelPartialEq.TheImpl as LabelEq
use Rattle.type_arena.specs.contracts.node.AmongPartialEq.TheImpl as AmongEq
use Rattle.type_arena.specs.contracts.node.FnName as FnNameType
use Rattle.type_arena.specs.contracts.node.NodePartialEq.TheImpl as NodeEq
use Rattle.type_arena.specs.contracts.node.RowPartialEq.TheImpl as RowEq
use Rattle.type_arena.specs.contracts.node.FnNamePartialEq.TheImpl as FnNameEq
use Rattle.type_arena.specs.contracts.node.TypeRefPartialEq.TheImpl as TypeRefEq
use Rattle.type_arena.proofs.StoreLemmas.{same_ref}

-- a test that is true exactly at equal values
abbrev pub TestsEqual : {X : Type 0} → (X → X → Bool) → Type 0
TestsEqual {X} test = (a b : X) → Decides (test a b) (a ≡ b)

both_true : (x y : Bool) → (x && y) ≡ true → (x ≡ true) × (y ≡ true)
both_true true y h = (refl, h)
both_true false y h = cc

true_both : (x y : Bool) → x ≡ true → y ≡ true → (x && y) ≡ true
true_both true y h k = k
true_both false y h k = cc

pair_tested : {X Y : Type 0} (first : X → X → Bool) (second : Y → Y → Bool) → TestsEqual first → TestsEqual second → TestsEqual (λ (p : X × Y) q. first p.0 q.0 && second p.1 q.1)
pair_tested first second f s (a, b) (c, d) = (λ h. let both = both_true (first a c) (second b d) h in let e = (f a c).0 both.0 in let e' = (s b d).0 both.1 in cc, λ e. true_both (first a c) (second b d) ((f a c).1 (ap (λ p. p.0) e)) ((s b d).1 (ap (λ p. p.1) e)))

pub ref_tested : TestsEqual TypeRefEq.ghosts.eq
ref_tested a b = (λ h. let both = both_true _ _ h in same_ref a b ((Decides-eqb a.home b.home).0 both.0) ((Decides-eqb a.id b.id).0 both.1), λ e. true_both _ _ ((Decides-eqb a.home b.home).1 (ap (λ (r : TypeRef). r.home) e)) ((Decides-eqb a.id b.id).1 (ap (λ (r : TypeRef). r.id) e)))

fn_tested : TestsEqual FnNameEq.ghosts.eq
fn_tested (Builtin p) (Builtin q) = (λ h. ap Builtin ((bytes_eq-Decides p q).0 h), λ e. (bytes_eq-Decides p q).1 (cc))
fn_tested (Builtin p) (Literal x y) = (λ h. cc, λ e. cc)
fn_tested (Literal x y) (Builtin q) = (λ h. cc, λ e. cc)
fn_tested (Literal x y) (Literal z w) = (λ h. let both = both_true _ _ h in let a = (Decides-eqb x z).0 both.0 in let b = (Decides-eqb y w).0 both.1 in cc, λ e. true_both _ _ ((Decides-eqb x z).1 (cc)) ((Decides-eqb y w).1 (cc)))

fields_tested : TestsEqual (pointwise (λ (p : List ℕ × TypeRef) (q : List ℕ × TypeRef). pointwise ◌==◌ p.0 q.0 && TypeRefEq.ghosts.eq p.1 q.1))
fields_tested a b = slice_eq-Decides (pair_tested (pointwise ◌==◌) TypeRefEq.ghosts.eq bytes_eq-Decides ref_tested) a b _ refl

same_row : (a b : Row) → a.frozen ≡ b.frozen → a.fields ≡ b.fields → a ≡ b
same_row a b frozen fields = λ j. record { frozen = frozen j; fields = fields j }

row_tested : TestsEqual RowEq.ghosts.eq
row_tested a b = (
  λ h. let both = both_true _ _ h in same_row a b ((booleans_Decides a.frozen b.frozen).0 both.0) ((fields_tested a.fields b.fields).0 both.1),
  λ e. true_both _ _ ((booleans_Decides a.frozen b.frozen).1 (ap (λ (r : Row). r.frozen) e)) ((fields_tested a.fields b.fields).1 (ap (λ (r : Row). r.fields) e)),
)

rows_tested : TestsEqual (pointwise RowEq.ghosts.eq)
rows_tested a b = slice_eq-Decides row_tested a b _ refl

strings_test : Among (List ℕ) → Among (List ℕ) → Bool
strings_test = (AmongEq.ghosts Label.the_row LabelEq.ghosts LabelEq.dict).eq

strings_tested : TestsEqual strings_test
unfolding strings_test
strings_tested (Only a) (Only b) = let all = slice_eq-Decides bytes_eq-Decides a b _ refl in (λ h. ap Only (all.0 h), λ e. all.1 (cc))
strings_tested (Only a) (AllBut b) = (λ h. cc, λ e. cc)
strings_tested (AllBut a) (Only b) = (λ h. cc, λ e. cc)
strings_tested (AllBut a) (AllBut b) = let all = slice_eq-Decides bytes_eq-Decides a b _ refl in (λ h. ap AllBut (all.0 h), λ e. all.1 (cc))

functions_test : Among FnName → Among FnName → Bool
functions_test = (AmongEq.ghosts FnNameType.the_row FnNameEq.ghosts FnNameEq.dict).eq

functions_tested : TestsEqual functions_test
unfolding functions_test
functions_tested (Only a) (Only b) = let all = slice_eq-Decides fn_tested a b _ refl in (λ h. ap Only (all.0 h), λ e. all.1 (cc))
functions_tested (Only a) (AllBut b) = (λ h. cc, λ e. cc)
functions_tested (AllBut a) (Only b) = (λ h. cc, λ e. cc)
functions_tested (AllBut a) (AllBut b) = let all = slice_eq-Decides fn_tested a b _ refl in (λ h. ap AllBut (all.0 h), λ e. all.1 (cc))

-- the test of two nodes, field by field
node_test : Node → Node → Bool
node_test a b = beq a.nil b.nil && (beq a.truth b.truth && (beq a.falsity b.falsity && (beq a.number b.number && (beq a.other b.other && (strings_test a.strings b.strings && (functions_test a.functions b.functions && pointwise RowEq.ghosts.eq a.rows b.rows))))))

node_test-is : (a b : Node) → NodeEq.ghosts.eq a b ≡ node_test a b
unfolding node_test strings_test functions_test
node_test-is a b = refl

pub node_tested : TestsEqual NodeEq.ghosts.eq
unfolding node_test
node_tested a b =
    let flag = booleans_Decides in
    let five = Decides-and _ _ (flag a.other b.other) (Decides-and _ _ (strings_tested a.strings b.strings) (Decides-and _ _ (functions_tested a.functions b.functions) (rows_tested a.rows b.rows))) in
    let all = Decides-and _ _ (flag a.nil b.nil) (Decides-and _ _ (flag a.truth b.truth) (Decides-and _ _ (flag a.falsity b.falsity) (Decides-and _ _ (flag a.number b.number) five))) in (
      λ h. let f = all.0 (sym (node_test-is a b) ∙ h) in
          λ j. record { nil = f.0 j; truth = f.1.0 j; falsity = f.1.1.0 j; number = f.1.1.1.0 j; other = f.1.1.1.1.0 j; strings = f.1.1.1.1.1.0 j; functions = f.1.1.1.1.1.1.0 j; rows = f.1.1.1.1.1.1.1 j },
      λ e. node_test-is a b ∙ all.1 (ap (λ (n : Node). n.nil) e, (ap (λ (n : Node). n.truth) e, (ap (λ (n : Node). n.falsity) e, (ap (λ (n : Node). n.number) e, (ap (λ (n : Node). n.other) e, (ap (λ (n : Node). n.strings) e, (ap (λ (n : Node). n.functions) e, ap (λ (n : Node). n.rows) e))))))),
    )
