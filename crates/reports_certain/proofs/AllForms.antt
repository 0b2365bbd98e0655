-- Each form of code, on the layer above one that does what the proof says.
use Rattle.std.proofs.Common.{◌≡◌, ℕ, true, false, not, ◌&&◌, List, [], ◌∷◌, Option, Some, None, ◌⊎◌, inl, inr, refl, sym, ◌∙◌, ap, subst, is_some}
use Rattle.std.specs.List.{AllByRecursion, list_all}
use Rattle.luau_values.specs.Value.{Value}
use Rattle.luau_tree.specs.Tree.{Expr, the_expr, Exprs, ExprKind, NilExpr, TrueExpr, FalseExpr, NumberExpr, StrExpr, Vararg, FunctionExpr, NameExpr, Index, At, Call, Method, Paren, Unary, Binary, IfElse, TableExpr, Interp, Assert}
use Rattle.luau_tree.specs.Tree.{the_stat, StatKind, Assign, Compound, CallStat, Do, While, Repeat, If, NumFor, GenFor, FunctionStat, LocalFunction, the_bind, Local, TypeAlias, TypeFunction, Return, Break, Continue}
use Rattle.luau_tree.specs.declared.position.Span.{Span}
use Rattle.luau_tree.specs.declared.names.BinOp.{BinOp}
use Rattle.luau_tree.specs.declared.names.BinOp.TheVariants.{Or, And}
use Rattle.luau_run.specs.ReadFolder.{may_mean}
use Rattle.luau_run.specs.ReadModule.{Use, UseLocal, UseBuiltin, UseLibrary, UseGlobal, ReadModule}
use Rattle.luau_run.specs.SyntaxNode.{AnExpr, of_expr, of_expr_kind, of_stat}
use Rattle.luau_run.specs.Machine.{State, Gave}
use Rattle.luau_run.specs.Layer.{Frame, Ending, Layer}
use Rattle.luau_run.specs.Expressions.{values}
use Rattle.luau_run.specs.Statements.{stat}
use Rattle.report_rules.specs.Rules.{Rules}
use Rattle.report_rules.specs.Effects.{locals_of_binds}
use Rattle.report_rules.specs.TypeMap.{TypeMap}
use Rattle.report_rules.specs.Seen.{seen_expr, seen_stat}
use Rattle.report_rules.specs.Context.{Context}
use Rattle.report_rules.specs.Checks.{ReportKind}
use Rattle.report_rules.specs.Statements.{stm}
use Rattle.report_rules.specs.Findings.{found, found_stat}
use Rattle.run_frame.specs.Analysis.{Analysis}
use Rattle.run_frame.specs.Statements.{stats_of_block, stats_of, stats_of_kind, stats_of_expr}
use Rattle.run_frame.specs.Fit.{IsFitKind, IsFitStat, Fit}
use Rattle.run_frame.proofs.World.{World}
use Rattle.run_frame.proofs.Fine.{Fine}
use Rattle.run_frame.proofs.Held.{Runs, Held}
use Rattle.run_frame.proofs.Parts.{Ends}
use Rattle.run_frame.proofs.Layers.{rules_of, seen_of, expr_of, stat_of, Inside, Placed, Marked, Gives, Leads, Pays, EndsBad, Trouble, Forward, Backward}
use Rattle.run_frame.proofs.LooseContexts.{SparesAll}
use Rattle.run_frame.proofs.Readings.{contains_head, all_contained, reads_same, means, fits}
use Rattle.run_frame.proofs.Plain.{plain_forward, plain_backward, plain_nil, plain_true, plain_false, plain_number, plain_text}
use Rattle.run_frame.proofs.NameForms.{name_forward, name_backward}
use Rattle.run_frame.proofs.PathForms.{index_path, path_forward, path_backward}
use Rattle.run_frame.proofs.WrapForms.{paren_forward, paren_backward, assert_forward, assert_backward}
use Rattle.run_frame.proofs.OperatorForms.{unary_forward, unary_backward, binary_forward, binary_backward}
use Rattle.run_frame.proofs.EitherForms.{either_forward, either_backward}
use Rattle.run_frame.proofs.ChoiceForms.{choice_forward, choice_backward}
use Rattle.run_frame.proofs.PartForms.{interp_forward, interp_backward}
use Rattle.run_frame.proofs.Statements.{call_stat_forward, call_stat_backward}
use Rattle.run_frame.proofs.LocalForms.{locals_same, local_forward, do_forward, do_backward, break_forward, continue_forward}
use Rattle.run_frame.proofs.LocalBack.{local_backward}
use Rattle.run_frame.proofs.IfForms.{if_forward, if_backward}
use Rattle.run_frame.proofs.Leaving.{return_forward, break_backward, continue_backward}
use Rattle.run_frame.proofs.Wanted.{return_backward}
use Rattle.body_runs.proofs.LiteralForms.{literal_forward, literal_backward}
use Rattle.body_runs.proofs.LocalFunctions.{local_function_forward, local_function_backward}
use Rattle.reports_certain.proofs.FunctionStatements.{function_forward, function_backward, defined_forward, defined_backward}
use Rattle.reports_certain.proofs.CallForms.{Freezes, call_forward, call_backward}
use Rattle.reports_certain.proofs.RequireForms.{required_forward, required_backward}
use Rattle.reports_certain.proofs.AssignForms.{assign_forward, assign_backward}
use Rattle.reports_certain.proofs.CompoundForms.{compound_forward, compound_backward}
use Rattle.reports_certain.proofs.WhileForms.{while_forward, while_backward}
use Rattle.reports_certain.proofs.Closed.{FitsRun}
use Rattle.reports_certain.proofs.NumberForms.{number_forward, number_backward}
use Rattle.reports_certain.proofs.IterationForms.{iteration_forward, iteration_backward}
use Rattle.reports_certain.proofs.RepeatForms.{repeat_forward, repeat_backward}
use Rattle.reports_certain.proofs.TableForms.{table_forward, table_backward}
use Rattle.reports_certain.proofs.MethodForms.{method_forward, method_backward}
use Rattle.reports_certain.proofs.ReadForms.{index_forward, index_backward, at_forward, at_backward}
use Rattle.reports_certain.proofs.SmallForms.{dots_forward, dots_backward, idle_forward, idle_backward}

-- ---- what fits a run

-- the variables of a `for` never stand for a builtin
none_fixed : (rules : Rules) (xs : List ℕ) → AllByRecursion (λ x. rules.fixed x ≡ None) xs → list_all (λ x. not (is_some (rules.fixed x))) xs ≡ true
none_fixed rules [] h = refl
none_fixed rules (x ∷ xs) h = by_one (rules.fixed x) h.0 (none_fixed rules xs h.1)
  where
    by_one : (o : Option (List ℕ)) → o ≡ None → list_all (λ x. not (is_some (rules.fixed x))) xs ≡ true → not (is_some o) && list_all (λ x. not (is_some (rules.fixed x))) xs ≡ true
    by_one None e k = k
    by_one (Some path) e k = cc

fits_so : (an : Analysis) (frame : Frame) (kind : StatKind) → (rules_of an frame).reading ≡ frame.reading → IsFitKind (rules_of an frame) kind → FitsRun an frame kind
fits_so an frame (NumFor (the_bind name span typ) from to by body) same h = ap (λ (x : ReadModule). (rules_of an frame).fixed (x.local_at span.start)) (sym same) ∙ h
fits_so an frame (GenFor binds values body) same h = subst (λ (xs : List ℕ). list_all (λ x. not (is_some ((rules_of an frame).fixed x))) xs ≡ true)
    (locals_same (rules_of an frame) frame binds same) (none_fixed (rules_of an frame) (locals_of_binds (rules_of an frame) binds) h.1)
fits_so an frame _ same h = tt

pub fits_run : (an : Analysis) (w : World) (s : State) (frame : Frame) (span : Span) (kind : StatKind) → Fit an → Runs an w s frame
    → Inside frame (of_stat (the_stat span kind)) (stats_of (the_stat span kind)) → FitsRun an frame kind
fits_run an w s frame span kind fit r inside = fits_so an frame kind (reads_same an w s frame fit r)
    (all_contained (IsFitStat (rules_of an frame)) (stats_of_block frame.reading.block) (the_stat span kind) (fits an w s frame fit r).statements
    (inside.stats (the_stat span kind) (contains_head (the_stat span kind) (stats_of_kind kind)))).1

-- `a.p` is a builtin's path, or stands for nothing
abbrev IndexMeans : Option Use → Type 0
IndexMeans o = (o ≡ None) ⊎ ((path : List ℕ) × (o ≡ Some (UseBuiltin path)))

index_means : (an : Analysis) (w : World) (s : State) (frame : Frame) (id : ℕ) (span : _) (base : Expr) (name : List ℕ) → Fit an → Runs an w s frame
    → Inside frame (of_expr (the_expr id span (Index base name))) (stats_of_expr (the_expr id span (Index base name))) → IndexMeans (frame.reading.use_of id)
index_means an w s frame id span base name fit r inside = by_use (frame.reading.use_of id)
    (means an w s frame id span (Index base name) fit r (inside.nodes (AnExpr (the_expr id span (Index base name)))
    (contains_head (AnExpr (the_expr id span (Index base name))) (of_expr_kind (Index base name)))))
  where
    by_use : (o : Option Use) → may_mean an.program (Index base name) o ≡ true → IndexMeans o
    by_use None e = inl refl
    by_use (Some (UseBuiltin path)) e = inr (path, refl)
    by_use (Some (UseLocal x)) e = cc
    by_use (Some UseLibrary) e = cc
    by_use (Some UseGlobal) e = cc

-- ---- expressions

module _ (an : Analysis) (l : Layer) (fit : Fit an) (fwd : Forward an l) (freezes : Freezes l) where
  binary_either : (w : World) (s : State) (frame : Frame) (map : TypeMap) (id : ℕ) (span : _) (op : BinOp) (left right : Expr) → Fine an w s → Runs an w s frame → Held an frame map s
      → Inside frame (of_expr (the_expr id span (Binary op left right))) (stats_of_expr (the_expr id span (Binary op left right)))
      → Placed an frame (seen_expr (rules_of an frame) map (the_expr id span (Binary op left right)))
      → Ends an (expr_of an frame (the_expr id span (Binary op left right))) w s (Gives an frame map (the_expr id span (Binary op left right)))
      (values an.program l frame (the_expr id span (Binary op left right)) s)
  binary_either w s frame map id span And left right f r h inside placed = either_forward an l fit fwd w s frame map id span true left right f r h inside placed
  binary_either w s frame map id span Or left right f r h inside placed = either_forward an l fit fwd w s frame map id span false left right f r h inside placed
  binary_either w s frame map id span op left right f r h inside placed = binary_forward an l fit fwd w s frame map id span op left right tt f r h inside placed

  index_values : (w : World) (s : State) (frame : Frame) (map : TypeMap) (id : ℕ) (span : _) (base : Expr) (name : List ℕ) → Fine an w s → Runs an w s frame → Held an frame map s
      → Inside frame (of_expr (the_expr id span (Index base name))) (stats_of_expr (the_expr id span (Index base name)))
      → Placed an frame (seen_expr (rules_of an frame) map (the_expr id span (Index base name))) → IndexMeans (frame.reading.use_of id)
      → Ends an (expr_of an frame (the_expr id span (Index base name))) w s (Gives an frame map (the_expr id span (Index base name))) (values an.program l frame (the_expr id span (Index base name)) s)
  index_values w s frame map id span base name f r h inside placed (inl unused) = index_forward an l fit fwd w s frame map id span base name unused f r h inside placed
  index_values w s frame map id span base name f r h inside placed (inr p) = path_forward an l w s frame map id span (Index base name) p.0 fit (index_path base name) p.1 f r

  call_values : (w : World) (s : State) (frame : Frame) (map : TypeMap) (id : ℕ) (span : Span) (callee : Expr) (args : Exprs) → Fine an w s → Runs an w s frame → Held an frame map s
      → Inside frame (of_expr (the_expr id span (Call callee args))) (stats_of_expr (the_expr id span (Call callee args)))
      → Placed an frame (seen_expr (rules_of an frame) map (the_expr id span (Call callee args))) → (o : Option ℕ) → frame.reading.required id ≡ o
      → Ends an (expr_of an frame (the_expr id span (Call callee args))) w s (Gives an frame map (the_expr id span (Call callee args))) (values an.program l frame (the_expr id span (Call callee args)) s)
  call_values w s frame map id span callee args f r h inside placed None required = call_forward an l fit fwd freezes w s frame map id span callee args required f r h inside placed
  call_values w s frame map id span callee args f r h inside placed (Some other) required =
      required_forward an l fit fwd w s frame map id span callee args other required f r h inside placed

  pub values_forward : (w : World) (s : State) (frame : Frame) (map : TypeMap) (id : ℕ) (span : _) (kind : ExprKind) → Fine an w s → Runs an w s frame
      → Held an frame map s → Inside frame (of_expr (the_expr id span kind)) (stats_of_expr (the_expr id span kind)) → Placed an frame (seen_expr (rules_of an frame) map (the_expr id span kind))
      → Ends an (expr_of an frame (the_expr id span kind)) w s (Gives an frame map (the_expr id span kind)) (values an.program l frame (the_expr id span kind) s)
  values_forward w s frame map id span NilExpr f r h inside placed = plain_forward an l w s frame map id span NilExpr _ fit plain_nil f r inside
  values_forward w s frame map id span TrueExpr f r h inside placed = plain_forward an l w s frame map id span TrueExpr _ fit plain_true f r inside
  values_forward w s frame map id span FalseExpr f r h inside placed = plain_forward an l w s frame map id span FalseExpr _ fit plain_false f r inside
  values_forward w s frame map id span (NumberExpr text) f r h inside placed = plain_forward an l w s frame map id span (NumberExpr text) _ fit (plain_number text) f r inside
  values_forward w s frame map id span (StrExpr bytes) f r h inside placed = plain_forward an l w s frame map id span (StrExpr bytes) _ fit (plain_text bytes) f r inside
  values_forward w s frame map id span Vararg f r h inside placed = dots_forward an l fit w s frame map id span f r inside
  values_forward w s frame map id span (FunctionExpr body) f r h inside placed = literal_forward an l fit w s frame map id span body f r h inside placed
  values_forward w s frame map id span (NameExpr name) f r h inside placed = name_forward an l w s frame map id span name fit f r h
  values_forward w s frame map id span (Index base name) f r h inside placed = index_values w s frame map id span base name f r h inside placed
      (index_means an w s frame id span base name fit r inside)
  values_forward w s frame map id span (At base key) f r h inside placed = at_forward an l fit fwd w s frame map id span base key f r h inside placed
  values_forward w s frame map id span (Call callee args) f r h inside placed = call_values w s frame map id span callee args f r h inside placed (frame.reading.required id) refl
  values_forward w s frame map id span (Method base name name_span args) f r h inside placed =
      method_forward an l fit fwd w s frame map id span base name name_span args f r h inside placed
  values_forward w s frame map id span (Paren e) f r h inside placed = paren_forward an l fit fwd w s frame map id span e f r h inside placed
  values_forward w s frame map id span (Unary op e) f r h inside placed = unary_forward an l fit fwd w s frame map id span op e f r h inside placed
  values_forward w s frame map id span (Binary op left right) f r h inside placed = binary_either w s frame map id span op left right f r h inside placed
  values_forward w s frame map id span (IfElse arms last) f r h inside placed = choice_forward an l fit fwd w s frame map id span arms last f r h inside placed
  values_forward w s frame map id span (TableExpr items) f r h inside placed = table_forward an l fit fwd w s frame map id span items f r h inside placed
  values_forward w s frame map id span (Interp texts parts) f r h inside placed = interp_forward an l fit fwd w s frame map id span texts parts f r h inside placed
  values_forward w s frame map id span (Assert e typ) f r h inside placed = assert_forward an l fit fwd w s frame map id span e typ f r h inside placed

  pub stat_forward : (w : World) (s : State) (frame : Frame) (map : TypeMap) (span : _) (kind : StatKind) → Fine an w s → Runs an w s frame → Held an frame map s
      → Inside frame (of_stat (the_stat span kind)) (stats_of (the_stat span kind)) → Placed an frame (seen_stat (rules_of an frame) map (the_stat span kind))
      → Ends an (stat_of an frame (the_stat span kind)) w s (Leads an frame map (the_stat span kind)) (stat an.program l frame (the_stat span kind) s)
  stat_forward w s frame map span (Assign es values) f r h inside placed = assign_forward an l fit fwd w s frame map span es values f r h inside placed
  stat_forward w s frame map span (Compound (the_expr id at_span kind) op e) f r h inside placed = compound_forward an l fit fwd w s frame map span id at_span kind op e f r h inside placed
  stat_forward w s frame map span (CallStat e) f r h inside placed = call_stat_forward an l fwd w s frame map span e f r h inside placed
  stat_forward w s frame map span (Do body) f r h inside placed = do_forward an l fwd w s frame map span body f r h inside placed
  stat_forward w s frame map span (While cond body) f r h inside placed = while_forward an l fwd w s frame map span cond body f r h inside placed
  stat_forward w s frame map span (Repeat body cond) f r h inside placed = repeat_forward an l fwd w s frame map span body cond f r h inside placed
  stat_forward w s frame map span (NumFor (the_bind name bind_span typ) from to by body) f r h inside placed =
      number_forward an l fit fwd frame map span bind_span name typ from to by body (reads_same an w s frame fit r) inside placed w s f r h
  stat_forward w s frame map span (GenFor binds values body) f r h inside placed = iteration_forward an l fit fwd frame map span binds values body inside placed w s f r h
  stat_forward w s frame map span (If arms last) f r h inside placed = if_forward an l fwd w s frame map span arms last f r h inside placed
  stat_forward w s frame map span (Local binds values) f r h inside placed = local_forward an l fit fwd w s frame map span binds values f r h inside placed
  stat_forward w s frame map span (FunctionStat path None body) f r h inside placed = function_forward an l fit fwd w s frame map span path body f r h inside placed
  stat_forward w s frame map span (FunctionStat path (Some method) body) f r h inside placed = defined_forward an l fit fwd w s frame map span path method body f r h inside placed
  stat_forward w s frame map span (LocalFunction (the_bind name name_span typ) body) f r h inside placed =
      local_function_forward an l fit w s frame map span name name_span typ body f r h inside placed
  stat_forward w s frame map span (TypeAlias exported name generics typ) f r h inside placed = idle_forward an l w s frame map span (TypeAlias exported name generics typ) tt f h
  stat_forward w s frame map span (TypeFunction exported name body) f r h inside placed = idle_forward an l w s frame map span (TypeFunction exported name body) tt f h
  stat_forward w s frame map span (Return values) f r h inside placed = return_forward an l fwd w s frame map span values f r h inside placed
  stat_forward w s frame map span Break f r h inside placed = break_forward an l w s frame map span f
  stat_forward w s frame map span Continue f r h inside placed = continue_forward an l w s frame map span f

module _ (an : Analysis) (l : Layer) (fit : Fit an) (fwd : Forward an l) (bwd : Backward an l) where
  either_pays : (w : World) (s : State) (frame : Frame) (map : TypeMap) (id : ℕ) (span : _) (op : BinOp) (left right : Expr) (around : List ReportKind) → Fine an w s → Runs an w s frame
      → Held an frame map s → Inside frame (of_expr (the_expr id span (Binary op left right))) (stats_of_expr (the_expr id span (Binary op left right)))
      → Placed an frame (seen_expr (rules_of an frame) map (the_expr id span (Binary op left right)))
      → Marked an frame (found (rules_of an frame) (seen_of an frame) around (the_expr id span (Binary op left right)))
      → (vs : List Value) (t : State) → values an.program l frame (the_expr id span (Binary op left right)) s ≡ Gave vs t → Pays an frame (the_expr id span (Binary op left right)) s vs t
  either_pays w s frame map id span And left right around f r h inside placed marked vs t q =
      either_backward an l fit fwd bwd w s frame map id span true left right around f r h inside placed marked vs t q
  either_pays w s frame map id span Or left right around f r h inside placed marked vs t q =
      either_backward an l fit fwd bwd w s frame map id span false left right around f r h inside placed marked vs t q
  either_pays w s frame map id span op left right around f r h inside placed marked vs t q =
      binary_backward an l fit fwd bwd w s frame map id span op left right around tt f r h inside placed marked vs t q

  index_pays : (w : World) (s : State) (frame : Frame) (map : TypeMap) (id : ℕ) (span : _) (base : Expr) (name : List ℕ) (around : List ReportKind) → Fine an w s → Runs an w s frame
      → Held an frame map s → Inside frame (of_expr (the_expr id span (Index base name))) (stats_of_expr (the_expr id span (Index base name)))
      → Placed an frame (seen_expr (rules_of an frame) map (the_expr id span (Index base name)))
      → Marked an frame (found (rules_of an frame) (seen_of an frame) around (the_expr id span (Index base name)))
      → (vs : List Value) (t : State) → values an.program l frame (the_expr id span (Index base name)) s ≡ Gave vs t → IndexMeans (frame.reading.use_of id)
      → Pays an frame (the_expr id span (Index base name)) s vs t
  index_pays w s frame map id span base name around f r h inside placed marked vs t q (inl unused) =
      index_backward an l fit fwd bwd w s frame map id span base name around unused f r h inside placed marked vs t q
  index_pays w s frame map id span base name around f r h inside placed marked vs t q (inr p) =
      path_backward an l w s frame id span (Index base name) p.0 vs t fit (index_path base name) p.1 f r q

  call_pays : (w : World) (s : State) (frame : Frame) (map : TypeMap) (id : ℕ) (span : Span) (callee : Expr) (args : Exprs) (around : List ReportKind) → Fine an w s → Runs an w s frame
      → Held an frame map s → Inside frame (of_expr (the_expr id span (Call callee args))) (stats_of_expr (the_expr id span (Call callee args)))
      → Placed an frame (seen_expr (rules_of an frame) map (the_expr id span (Call callee args)))
      → Marked an frame (found (rules_of an frame) (seen_of an frame) around (the_expr id span (Call callee args)))
      → (vs : List Value) (t : State) → values an.program l frame (the_expr id span (Call callee args)) s ≡ Gave vs t → (o : Option ℕ) → frame.reading.required id ≡ o
      → Pays an frame (the_expr id span (Call callee args)) s vs t
  call_pays w s frame map id span callee args around f r h inside placed marked vs t q None required =
      call_backward an l fit fwd bwd w s frame map id span callee args around required f r h inside placed marked vs t q
  call_pays w s frame map id span callee args around f r h inside placed marked vs t q (Some other) required =
      required_backward an l fit fwd bwd w s frame map id span callee args around other required f r h inside placed marked vs t q

  pub values_pays : (w : World) (s : State) (frame : Frame) (map : TypeMap) (id : ℕ) (span : _) (kind : ExprKind) (around : List ReportKind) → Fine an w s
      → Runs an w s frame → Held an frame map s → Inside frame (of_expr (the_expr id span kind)) (stats_of_expr (the_expr id span kind))
      → Placed an frame (seen_expr (rules_of an frame) map (the_expr id span kind)) → Marked an frame (found (rules_of an frame) (seen_of an frame) around (the_expr id span kind))
      → (vs : List Value) (t : State) → values an.program l frame (the_expr id span kind) s ≡ Gave vs t → Pays an frame (the_expr id span kind) s vs t
  values_pays w s frame map id span NilExpr around f r h inside placed marked vs t q = plain_backward an l w s frame id span NilExpr _ vs t fit plain_nil f r inside q
  values_pays w s frame map id span TrueExpr around f r h inside placed marked vs t q = plain_backward an l w s frame id span TrueExpr _ vs t fit plain_true f r inside q
  values_pays w s frame map id span FalseExpr around f r h inside placed marked vs t q = plain_backward an l w s frame id span FalseExpr _ vs t fit plain_false f r inside q
  values_pays w s frame map id span (NumberExpr text) around f r h inside placed marked vs t q = plain_backward an l w s frame id span (NumberExpr text) _ vs t fit (plain_number text) f r inside q
  values_pays w s frame map id span (StrExpr bytes) around f r h inside placed marked vs t q = plain_backward an l w s frame id span (StrExpr bytes) _ vs t fit (plain_text bytes) f r inside q
  values_pays w s frame map id span Vararg around f r h inside placed marked vs t q = dots_backward an l fit w s frame id span f r inside vs t q
  values_pays w s frame map id span (FunctionExpr body) around f r h inside placed marked vs t q = literal_backward an l fit w s frame map id span body f r h inside placed vs t q
  values_pays w s frame map id span (NameExpr name) around f r h inside placed marked vs t q = name_backward an l w s frame id span name vs t fit f r q
  values_pays w s frame map id span (Index base name) around f r h inside placed marked vs t q = index_pays w s frame map id span base name around f r h inside placed marked vs t q
      (index_means an w s frame id span base name fit r inside)
  values_pays w s frame map id span (At base key) around f r h inside placed marked vs t q =
      at_backward an l fit fwd bwd w s frame map id span base key around f r h inside placed marked vs t q
  values_pays w s frame map id span (Call callee args) around f r h inside placed marked vs t q =
      call_pays w s frame map id span callee args around f r h inside placed marked vs t q (frame.reading.required id) refl
  values_pays w s frame map id span (Method base name name_span args) around f r h inside placed marked vs t q =
      method_backward an l fit fwd bwd w s frame map id span base name name_span args around f r h inside placed marked vs t q
  values_pays w s frame map id span (Paren e) around f r h inside placed marked vs t q = paren_backward an l fit fwd bwd w s frame map id span e around f r h inside placed marked vs t q
  values_pays w s frame map id span (Unary op e) around f r h inside placed marked vs t q = unary_backward an l fit fwd bwd w s frame map id span op e around f r h inside placed marked vs t q
  values_pays w s frame map id span (Binary op left right) around f r h inside placed marked vs t q = either_pays w s frame map id span op left right around f r h inside placed marked vs t q
  values_pays w s frame map id span (IfElse arms last) around f r h inside placed marked vs t q =
      choice_backward an l fit fwd bwd w s frame map id span arms last around f r h inside placed marked vs t q
  values_pays w s frame map id span (TableExpr items) around f r h inside placed marked vs t q =
      table_backward an l fit fwd bwd w s frame map id span items around f r h inside placed marked vs t q
  values_pays w s frame map id span (Interp texts parts) around f r h inside placed marked vs t q =
      interp_backward an l fit fwd bwd w s frame map id span texts parts around f r h inside placed marked vs t q
  values_pays w s frame map id span (Assert e typ) around f r h inside placed marked vs t q = assert_backward an l fit fwd bwd w s frame map id span e typ around f r h inside placed marked vs t q

  pub stat_pays : (w : World) (s : State) (frame : Frame) (map : TypeMap) (span : _) (kind : StatKind) (behind breaks_to continues_to : Context) → Fine an w s
      → Runs an w s frame → Held an frame map s → Inside frame (of_stat (the_stat span kind)) (stats_of (the_stat span kind))
      → Placed an frame (seen_stat (rules_of an frame) map (the_stat span kind))
      → Marked an frame (found_stat (rules_of an frame) (seen_of an frame) (the_stat span kind) behind breaks_to continues_to) → SparesAll (rules_of an frame) behind breaks_to continues_to
      → (ending : Ending) (t : State) → stat an.program l frame (the_stat span kind) s ≡ Gave ending t
      → Trouble an frame (stm (rules_of an frame) (seen_of an frame) (the_stat span kind) behind breaks_to continues_to) s t → EndsBad an frame behind breaks_to continues_to ending t
  stat_pays w s frame map span (Assign es values) behind breaks_to continues_to f r h inside placed marked spares ending t q y =
      assign_backward an l fit fwd bwd w s frame map span es values behind breaks_to continues_to f r h inside placed marked spares ending t q y
  stat_pays w s frame map span (Compound (the_expr id at_span kind) op e) behind breaks_to continues_to f r h inside placed marked spares ending t q y =
      compound_backward an l fit fwd bwd w s frame map span id at_span kind op e behind breaks_to continues_to f r h inside placed marked ending t q y
  stat_pays w s frame map span (CallStat e) behind breaks_to continues_to f r h inside placed marked spares ending t q y =
      call_stat_backward an l fit fwd bwd w s frame map span e behind breaks_to continues_to f r h inside placed marked ending t q y
  stat_pays w s frame map span (Do body) behind breaks_to continues_to f r h inside placed marked spares ending t q y =
      do_backward an l fwd bwd w s frame map span body behind breaks_to continues_to f r h inside placed marked spares ending t q y
  stat_pays w s frame map span (While cond body) behind breaks_to continues_to f r h inside placed marked spares ending t q y =
      while_backward an l bwd w s frame map span cond body behind breaks_to continues_to f r h inside placed marked spares ending t q y
  stat_pays w s frame map span (Repeat body cond) behind breaks_to continues_to f r h inside placed marked spares ending t q y =
      repeat_backward an l bwd w s frame map span body cond behind breaks_to continues_to f r h inside placed marked spares ending t q y
  stat_pays w s frame map span (NumFor (the_bind name bind_span typ) from to by body) behind breaks_to continues_to f r h inside placed marked spares ending t q y =
      number_backward an l fit fwd frame map span bind_span name typ from to by body (reads_same an w s frame fit r) inside placed bwd behind breaks_to continues_to marked spares w s f r h ending t q y
  stat_pays w s frame map span (GenFor binds values body) behind breaks_to continues_to f r h inside placed marked spares ending t q y =
      iteration_backward an l fit fwd frame map span binds values body inside placed bwd behind breaks_to continues_to marked spares w s f r h ending t q y
  stat_pays w s frame map span (If arms last) behind breaks_to continues_to f r h inside placed marked spares ending t q y =
      if_backward an l fit fwd bwd w s frame map span arms last behind breaks_to continues_to f r h inside placed marked spares ending t q y
  stat_pays w s frame map span (Local binds values) behind breaks_to continues_to f r h inside placed marked spares ending t q y =
      local_backward an l fit fwd bwd w s frame map span binds values behind breaks_to continues_to f r h inside placed marked spares ending t q y
  stat_pays w s frame map span (FunctionStat path None body) behind breaks_to continues_to f r h inside placed marked spares ending t q y =
      function_backward an l fit fwd w s frame map span path body f r h inside placed bwd behind breaks_to continues_to marked ending t q y
  stat_pays w s frame map span (FunctionStat path (Some method) body) behind breaks_to continues_to f r h inside placed marked spares ending t q y =
      defined_backward an l fit fwd w s frame map span path method body f r h inside placed bwd behind breaks_to continues_to marked ending t q y
  stat_pays w s frame map span (LocalFunction (the_bind name name_span typ) body) behind breaks_to continues_to f r h inside placed marked spares ending t q y =
      local_function_backward an l fit w s frame map span name name_span typ body f r h inside placed behind breaks_to continues_to ending t q y
  stat_pays w s frame map span (TypeAlias exported name generics typ) behind breaks_to continues_to f r h inside placed marked spares ending t q y =
      idle_backward an l s frame span (TypeAlias exported name generics typ) behind breaks_to continues_to tt ending t q y
  stat_pays w s frame map span (TypeFunction exported name body) behind breaks_to continues_to f r h inside placed marked spares ending t q y =
      idle_backward an l s frame span (TypeFunction exported name body) behind breaks_to continues_to tt ending t q y
  stat_pays w s frame map span (Return values) behind breaks_to continues_to f r h inside placed marked spares ending t q y =
      return_backward an l fit fwd bwd w s frame map span values behind breaks_to continues_to f r h inside placed marked ending t q y
  stat_pays w s frame map span Break behind breaks_to continues_to f r h inside placed marked spares ending t q y =
      break_backward an l s frame span behind breaks_to continues_to ending t q y
  stat_pays w s frame map span Continue behind breaks_to continues_to f r h inside placed marked spares ending t q y =
      continue_backward an l s frame span behind breaks_to continues_to ending t q y
