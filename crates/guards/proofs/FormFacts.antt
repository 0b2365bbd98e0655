-- The list that is made for an expression, by the form of the expression and the lists of its parts.
use Rattle.std.proofs.Common.{◌≡◌, ℕ, Bool, true, false, List, [], refl, sym, ap, ◌∙◌}
use Rattle.std.specs.Prelude.{not, Option, Some, None}
use Rattle.luau_run.specs.ReadFolder.{local_of}
use Rattle.luau_tree.specs.declared.names.BinOp.{BinOp}
use Rattle.luau_tree.specs.declared.names.UnOp.{UnOp}
use Rattle.luau_tree.specs.declared.names.UnOp.TheVariants.{Minus, Not, Length}
use Rattle.luau_tree.specs.declared.position.Span.{Span}
use Rattle.luau_tree.specs.declared.tree as code
use Rattle.luau_tree.specs.declared.tree.ExprKind.TheVariants as an_expr
use Rattle.luau_tree.specs.Tree as plain
use Rattle.luau_tree.specs.View.{view_expr}
use Rattle.type_arena.specs.Arena.{store_of}
use Rattle.type_arena.specs.Meaning.{term_of}
use Rattle.type_arena.specs.Term.{Term}
use Rattle.type_arena.specs.declared.arena.Arena.{Arena}
use Rattle.report_rules.specs.Rules.{Rules}
use Rattle.report_rules.specs.Guard.{firm_only, equality}
use Rattle.guards.specs.Guards.{Means}
use Rattle.guards.specs.Lists.{joined, meant}
use Rattle.guards.specs.Made.{name_list, joins_of, compared, join_where, sides_list, made, made_in}
use Rattle.guards.specs.declared.guarding.Guard.{Guard}
use Rattle.guards.specs.declared.guarding.Joins.{Joins}
use Rattle.guards.proofs.MeansFacts.{means_as, turned_means, nothing_means}
use Rattle.guards.proofs.TreeFacts.{of_name, of_paren, of_unary, of_binary, of_other}

abbrev Entries : Type 0
Entries = List (ℕ × Term)

pub name_is : (x : code.Expr.Expr) (name : List ℕ) → x.kind ≡ an_expr.Name name → (rules : Rules) (named : Option ℕ) → named ≡ firm_only rules (local_of (rules.reading.use_of x.id.0)) → (truth : Bool)
    → name_list truth named ≡ made rules (view_expr x) truth
name_is x name is rules named f truth = ap (name_list truth) f ∙ sym (of_name x name is rules truth)

pub paren_is : (x y z : code.Expr.Expr) → x.kind ≡ an_expr.Paren y → z ≡ y → (rules : Rules) (truth : Bool) → made rules (view_expr z) truth ≡ made rules (view_expr x) truth
paren_is x y z is same rules truth = ap (λ (w : code.Expr.Expr). made rules (view_expr w) truth) same ∙ sym (of_paren x y is rules truth)

pub not_is : (x y z : code.Expr.Expr) → x.kind ≡ an_expr.Unary Not y → z ≡ y → (rules : Rules) (truth : Bool) → made rules (view_expr z) (not truth) ≡ made rules (view_expr x) truth
not_is x y z is same rules truth = ap (λ (w : code.Expr.Expr). made rules (view_expr w) (not truth)) same ∙ sym (of_unary x y Not is rules truth)

other_unary : (rules : Rules) (id : ℕ) (op : UnOp) (e : plain.Expr) (truth : Bool) → (op ≡ Not → ⊥) → made_in rules id (plain.Unary op e) truth ≡ []
other_unary rules id Minus e truth n = refl
other_unary rules id Length e truth n = refl
other_unary rules id Not e truth n = absurd (n refl)

pub unary_is : (x y : code.Expr.Expr) (op : UnOp) → x.kind ≡ an_expr.Unary op y → (op ≡ Not → ⊥) → (rules : Rules) (truth : Bool) → [] ≡ made rules (view_expr x) truth
unary_is x y op is n rules truth = sym (of_unary x y op is rules truth ∙ other_unary rules x.id.0 op (view_expr y) truth n)

-- the two sides of an operator
sides_are : (x l r l' r' : code.Expr.Expr) (op : BinOp) (o : Option Joins) → x.kind ≡ an_expr.Binary op l r → l' ≡ l → r' ≡ r → o ≡ joins_of op → (rules : Rules) (truth : Bool)
    → sides_list o truth (made rules (view_expr l') truth) (made rules (view_expr r') truth) (compared op truth (equality rules (view_expr l') (view_expr r'))) ≡ made rules (view_expr x) truth
sides_are x l r l' r' op o is a b j rules truth =
    (λ i. sides_list (j i) truth (made rules (view_expr (a i)) truth) (made rules (view_expr (b i)) truth) (compared op truth (equality rules (view_expr (a i)) (view_expr (b i)))))
    ∙ sym (of_binary x l r op is rules truth)

pub joined_is : (x l r l' r' : code.Expr.Expr) (op : BinOp) (joins : Joins) → x.kind ≡ an_expr.Binary op l r → l' ≡ l → r' ≡ r → Some joins ≡ joins_of op → (rules : Rules) (truth : Bool)
    → joined (join_where truth joins) (made rules (view_expr l') truth) (made rules (view_expr r') truth) ≡ made rules (view_expr x) truth
joined_is x l r l' r' op joins is a b j rules truth = sides_are x l r l' r' op (Some joins) is a b j rules truth

pub compared_is : (x l r l' r' : code.Expr.Expr) (op : BinOp) → x.kind ≡ an_expr.Binary op l r → l' ≡ l → r' ≡ r → None ≡ joins_of op → (rules : Rules) (truth : Bool)
    → compared op truth (equality rules (view_expr l') (view_expr r')) ≡ made rules (view_expr x) truth
compared_is x l r l' r' op is a b j rules truth = sides_are x l r l' r' op None is a b j rules truth

-- ## What guards mean

pub name_means : (a : Arena) (g : Guard) (x : code.Expr.Expr) (name : List ℕ) → x.kind ≡ an_expr.Name name → (rules : Rules) (named : Option ℕ) → named ≡ firm_only rules (local_of (rules.reading.use_of x.id.0))
    → Means a g (name_list true named) (name_list false named) → Means a g (made rules (view_expr x) true) (made rules (view_expr x) false)
name_means a g x name is rules named e m = means_as a g _ _ _ _ m (name_is x name is rules named e true) (name_is x name is rules named e false)

pub paren_means : (a : Arena) (g : Guard) (x y z : code.Expr.Expr) → x.kind ≡ an_expr.Paren y → z ≡ y → (rules : Rules)
    → Means a g (made rules (view_expr z) true) (made rules (view_expr z) false) → Means a g (made rules (view_expr x) true) (made rules (view_expr x) false)
paren_means a g x y z is same rules m = means_as a g _ _ _ _ m (paren_is x y z is same rules true) (paren_is x y z is same rules false)

pub not_means : (a : Arena) (g h : Guard) (x y z : code.Expr.Expr) → x.kind ≡ an_expr.Unary Not y → z ≡ y → (rules : Rules) → h.when_true ≡ g.when_false → h.when_false ≡ g.when_true
    → Means a g (made rules (view_expr z) true) (made rules (view_expr z) false) → Means a h (made rules (view_expr x) true) (made rules (view_expr x) false)
not_means a g h x y z is same rules p q m = means_as a h _ _ _ _ (turned_means a g h _ _ m p q) (not_is x y z is same rules true) (not_is x y z is same rules false)

pub unary_means : (a : Arena) (h : Guard) (x y : code.Expr.Expr) (op : UnOp) → x.kind ≡ an_expr.Unary op y → (op ≡ Not → ⊥) → h.when_true ≡ [] → h.when_false ≡ [] → (rules : Rules)
    → Means a h (made rules (view_expr x) true) (made rules (view_expr x) false)
unary_means a h x y op is n p q rules = means_as a h _ _ _ _ (nothing_means a h p q) (unary_is x y op is n rules true) (unary_is x y op is n rules false)

pub together_means : (a b : Arena) (first second g : Guard) (x l r l' r' : code.Expr.Expr) (op : BinOp) (joins : Joins) → x.kind ≡ an_expr.Binary op l r → l' ≡ l → r' ≡ r → Some joins ≡ joins_of op → (rules : Rules)
    → Means a first (made rules (view_expr l') true) (made rules (view_expr l') false) → Means a second (made rules (view_expr r') true) (made rules (view_expr r') false)
    → Means b g (joined joins.on_true (meant (term_of (store_of a)) first.when_true) (meant (term_of (store_of a)) second.when_true))
    (joined joins.on_false (meant (term_of (store_of a)) first.when_false) (meant (term_of (store_of a)) second.when_false))
    → Means b g (made rules (view_expr x) true) (made rules (view_expr x) false)
together_means a b first second g x l r l' r' op joins is p q j rules m n k =
    means_as b g _ _ _ _ k
    ((λ i. joined joins.on_true (m.when_true i) (n.when_true i)) ∙ joined_is x l r l' r' op joins is p q j rules true)
    ((λ i. joined joins.on_false (m.when_false i) (n.when_false i)) ∙ joined_is x l r l' r' op joins is p q j rules false)

pub compared_means : (a : Arena) (g : Guard) (x l r l' r' : code.Expr.Expr) (op : BinOp) → x.kind ≡ an_expr.Binary op l r → l' ≡ l → r' ≡ r → None ≡ joins_of op → (rules : Rules)
    → Means a g (compared op true (equality rules (view_expr l') (view_expr r'))) (compared op false (equality rules (view_expr l') (view_expr r')))
    → Means a g (made rules (view_expr x) true) (made rules (view_expr x) false)
compared_means a g x l r l' r' op is p q j rules m = means_as a g _ _ _ _ m (compared_is x l r l' r' op is p q j rules true) (compared_is x l r l' r' op is p q j rules false)

pub other_means : (a : Arena) (h : Guard) (x : code.Expr.Expr) → ((name : List ℕ) → x.kind ≡ an_expr.Name name → ⊥) → ((e : code.Expr.Expr) → x.kind ≡ an_expr.Paren e → ⊥)
    → ((op : UnOp) (e : code.Expr.Expr) → x.kind ≡ an_expr.Unary op e → ⊥) → ((op : BinOp) (l r : code.Expr.Expr) → x.kind ≡ an_expr.Binary op l r → ⊥)
    → h.when_true ≡ [] → h.when_false ≡ [] → (rules : Rules) → Means a h (made rules (view_expr x) true) (made rules (view_expr x) false)
other_means a h x n p u b e f rules = means_as a h _ _ _ _ (nothing_means a h e f) (sym (of_other x n p u b rules true)) (sym (of_other x n p u b rules false))

-- what two sides say together, of the plain tree
pub sides_mean : (a : Arena) (g : Guard) (joins : Joins) (op : BinOp) → Some joins ≡ joins_of op → (rules : Rules) (id : ℕ) (span : Span) (l r : plain.Expr)
    → Means a g (joined joins.on_true (made rules l true) (made rules r true)) (joined joins.on_false (made rules l false) (made rules r false))
    → Means a g (made rules (plain.the_expr id span (plain.Binary op l r)) true) (made rules (plain.the_expr id span (plain.Binary op l r)) false)
sides_mean a g joins op j rules id span l r m =
    means_as a g _ _ _ _ m (ap (λ (o : Option Joins). sides_list o true (made rules l true) (made rules r true) (compared op true (equality rules l r))) j)
    (ap (λ (o : Option Joins). sides_list o false (made rules l false) (made rules r false) (compared op false (equality rules l r))) j)
