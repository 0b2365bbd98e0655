-- Constructors of tables, forward and backward.
use Rattle.std.proofs.Common.{◌≡◌, ℕ, Bool, true, false, ◌||◌, if◌then◌else◌, List, [], ◌∷◌, ◌++◌, length, ◌⊎◌, inl, inr, refl, sym, ◌∙◌, ap, subst, arith}
use Rattle.luau_values.specs.Value.{Value, Tab}
use Rattle.luau_values.specs.Heap.{Heap, with_table}
use Rattle.luau_values.specs.Heap as heaps
use Rattle.luau_values.proofs.Public.{table_grows, table_adds_one}
use Rattle.luau_tree.specs.Tree.{Expr, the_expr, TableExpr, Field, Keyed, Plain, Items, no_items, more_items}
use Rattle.luau_run.specs.SyntaxNode.{AnExpr, of_block, of_expr, of_items}
use Rattle.luau_run.specs.Machine.{State, Gave, ◌>>=◌, give, look, change, make_table}
use Rattle.luau_run.specs.Layer.{Frame, Layer, first}
use Rattle.luau_run.specs.Expressions.{value, keyed_field, item_fields, one, values}
use Rattle.type_arena.specs.Term.{never}
use Rattle.type_normal.specs.Holds.{holds}
use Rattle.type_normal.specs.Kinds.{table_type, row_type}
use Rattle.type_normal.proofs.Public.{new_table_holds}
use Rattle.report_rules.specs.Effects.{effects, effects_of_items}
use Rattle.report_rules.specs.TypeMap.{TypeMap}
use Rattle.report_rules.specs.Forward.{after, after_part, has_other_key, fields_of_items}
use Rattle.report_rules.specs.Seen.{seen_expr, seen_items}
use Rattle.report_rules.specs.Context.{Context, followed}
use Rattle.report_rules.specs.Checks.{ReportKind}
use Rattle.report_rules.specs.Errors.{ev, ev_items}
use Rattle.report_rules.specs.Findings.{found, found_items}
use Rattle.report_rules.specs.Reports.{findings}
use Rattle.run_frame.specs.Analysis.{Analysis}
use Rattle.run_frame.specs.Statements.{stats_of_expr, stats_of_items}
use Rattle.run_frame.specs.Fit.{Fit}
use Rattle.run_frame.proofs.World.{World}
use Rattle.run_frame.proofs.Counts.{reached}
use Rattle.run_frame.proofs.Kept.{Doer, Kept, kept_more, kept_trans}
use Rattle.run_frame.proofs.Fine.{Fine}
use Rattle.run_frame.proofs.Held.{Runs, runs_kept, Held, held_store, Violated}
use Rattle.run_frame.proofs.Parts.{Ends, Same, ends_then, ends_so, ends_give, ends_gave, gave_then, gave_same}
use Rattle.run_frame.proofs.Tables.{with_heap, IsMade, ends_table}
use Rattle.run_frame.proofs.Layers.{rules_of, seen_of, part_of, expr_of, Inside, Placed, Marked, Gives, Pays, Forward, Backward}
use Rattle.run_frame.proofs.Readings.{sub_tail, sub_left, sub_right}
use Rattle.run_frame.proofs.Names.{ends_one}
use Rattle.run_frame.proofs.Passing.{held_after, none_violated, violated_followed}
use Rattle.run_frame.proofs.Lists.{may_first, may_second, inside_left, inside_right}
use Rattle.run_frame.proofs.Statements.{unchecked_count, unchecked_context}
use Rattle.run_frame.proofs.Forms.{one_gave, value_gave, Evaluated, evaluated, IsForm, form_read, form_forward, OneGives, one_gives, FormPays, form_backward}
use Rattle.reports_certain.proofs.ItemForms.{IsKeyed, ItemsGive, typed_grown, keyed_ends, items_forward}

-- ---- forward

table_form : (items : Items) → IsForm (TableExpr items)
table_form items = record { nameless = refl; pathless = refl; no_local = λ rules id span. refl }

within_table : (frame : Frame) (id : ℕ) (span : _) (items : Items) → Inside frame (of_expr (the_expr id span (TableExpr items))) (stats_of_expr (the_expr id span (TableExpr items)))
    → Inside frame (of_items items) (stats_of_items items)
within_table frame id span items h = record { nodes = sub_tail (AnExpr (the_expr id span (TableExpr items))) (of_items items) (of_block frame.reading.block) h.nodes; stats = h.stats }

-- the new table is of the constructor's type
table_typed : (an : Analysis) (w : World) (frame : Frame) (map : TypeMap) (id : ℕ) (items : Items) (out : List heaps.Field) (t : State) → Fine an w t → ItemsGive an frame map items [] out t
    → holds (with_table out t.store.heap) (Tab (length t.store.heap)) (if has_other_key items then table_type else row_type false (fields_of_items (rules_of an frame) map items)) ≡ true
table_typed an w frame map id items out t f g = by_key (has_other_key items) refl
  where
    by_key : (b : Bool) → has_other_key items ≡ b
        → holds (with_table out t.store.heap) (Tab (length t.store.heap)) (if b then table_type else row_type false (fields_of_items (rules_of an frame) map items)) ≡ true
    by_key true e = refl
    by_key false e = new_table_holds t.store.heap out (fields_of_items (rules_of an frame) map items)
        (typed_grown t.store.heap (with_table out t.store.heap) out (fields_of_items (rules_of an frame) map items) f.fields (table_grows t.store.heap out) g.stand (g.typed e))

pub table_forward : (an : Analysis) (l : Layer) → Fit an → Forward an l → (w : World) (s : State) (frame : Frame) (map : TypeMap) (id : ℕ) (span : _) (items : Items) → Fine an w s
    → Runs an w s frame → Held an frame map s → Inside frame (of_expr (the_expr id span (TableExpr items))) (stats_of_expr (the_expr id span (TableExpr items)))
    → Placed an frame (seen_expr (rules_of an frame) map (the_expr id span (TableExpr items)))
    → Ends an (expr_of an frame (the_expr id span (TableExpr items))) w s (Gives an frame map (the_expr id span (TableExpr items)))
    (values an.program l frame (the_expr id span (TableExpr items)) s)
unfolding ◌>>=◌
table_forward an l fit fwd w s frame map id span items f r h inside placed =
    form_forward an l w s frame id span (TableExpr items) (Gives an frame map (the_expr id span (TableExpr items))) fit (table_form items) f r inside
    (λ t z g j same. ends_so an (part_of frame (effects_of_items (rules_of an frame) items)) z t (λ vs u. (v : Value) × (vs ≡ v ∷ []) × OneGives an frame map id (TableExpr items) v u)
    (Gives an frame map (the_expr id span (TableExpr items)))
    (one (◌>>=◌ (item_fields l frame items []) (λ fields. ◌>>=◌ (make_table fields) (λ address. give (Tab address)))) t)
    (λ vs u y q d k p. one_gives an frame map id span (TableExpr items) vs u (table_form items) (λ rules. refl)
    (form_read an w s frame id span (TableExpr items) fit (table_form items) r inside) p)
    (ends_one an (part_of frame (effects_of_items (rules_of an frame) items)) z t (OneGives an frame map id (TableExpr items))
    (◌>>=◌ (item_fields l frame items []) (λ fields. ◌>>=◌ (make_table fields) (λ address. give (Tab address))))
    (ends_then an (part_of frame (effects_of_items (rules_of an frame) items)) z t (ItemsGive an frame map items []) (OneGives an frame map id (TableExpr items)) (item_fields l frame items [] t)
    (λ fields. ◌>>=◌ (make_table fields) (λ address. give (Tab address)))
    (items_forward an l fit fwd frame z t map items [] g j (held_store an s t frame map same h) (within_table frame id span items inside)
    (sub_tail _ (seen_items (rules_of an frame) map items) (seen_of an frame) placed) (λ name. tt))
    (λ out u y d k p. ends_then an (part_of frame (effects_of_items (rules_of an frame) items)) y u (IsMade out u) (OneGives an frame map id (TableExpr items)) (make_table out u)
    (λ address. give (Tab address)) (ends_table an (part_of frame (effects_of_items (rules_of an frame) items)) y u out d p.stand)
    (λ address v n c i m. ends_give an (part_of frame (effects_of_items (rules_of an frame) items)) n v (OneGives an frame map id (TableExpr items)) (Tab address) c
    (made_gives y u out d p address v m))))))
  where
    made_gives : (y : World) (u : State) (out : List heaps.Field) → Fine an y u → ItemsGive an frame map items [] out u → (address : ℕ) (v : State) → IsMade out u address v
        → OneGives an frame map id (TableExpr items) (Tab address) v
    made_gives y u out d p address v (e, made) = subst (λ (a : ℕ). OneGives an frame map id (TableExpr items) (Tab a) v) (sym e)
        (subst (λ (x : State). OneGives an frame map id (TableExpr items) (Tab (length u.store.heap)) x) (sym made) (record {
          stands = omega (arith, table_adds_one u.store.heap out);
          typed = table_typed an y frame map id items out u d p;
          guard_shows = λ x firm. inl refl;
        }))

-- ---- backward

key_counts : (an : Analysis) (who : Doer) (w : World) (s : State) (k v : Value) (fields more : List heaps.Field) (t : State) → Fine an w s → keyed_field k v fields s ≡ Gave more t → Same s t
key_counts an who w s k v fields more t f e = (ends_gave an who w s (λ more t. Same s t × IsKeyed k v fields more) (keyed_field k v fields s) more t e (keyed_ends an who w s k v fields f)).3.0

module _ (an : Analysis) (l : Layer) (fit : Fit an) (fwd : Forward an l) (bwd : Backward an l) (frame : Frame) where
  -- where all items gave, their context wasn't violated, and no reported place was reached
  abbrev pub Quiet : Context → State → State → Type 0
  Quiet context s u = (Violated an frame context s → ⊥) × (reached an frame.activation u.trace ≡ reached an frame.activation s.trace)

  -- a value, and then what is quiet
  value_quiet : (w : World) (s : State) (map : TypeMap) (e : Expr) (rest : Context) (vs : List Value) (t u : State) → Fine an w s → Runs an w s frame
      → Marked an frame (found (rules_of an frame) (seen_of an frame) [] e) → Evaluated an w s frame map e vs t → Quiet rest t u
      → Quiet (followed (ev (rules_of an frame) (seen_of an frame) e never) (effects (rules_of an frame) e) rest) s u
  value_quiet w s map e rest vs t u f r marked o q = (
    λ y. by_side (violated_followed an w o.world s t frame (ev (rules_of an frame) (seen_of an frame) e never) rest (effects (rules_of an frame) e) f r o.kept y),
    q.1 ∙ unchecked_count an w s frame e vs s t fit r marked o.pays,
  )
    where
      by_side : Violated an frame (ev (rules_of an frame) (seen_of an frame) e never) s ⊎ Violated an frame rest t → ⊥
      by_side (inl y) = unchecked_context an frame e s vs t o.pays y
      by_side (inr y) = q.0 y

  value_evaluated : (w : World) (s : State) (map : TypeMap) (e : Expr) (v : Value) (t : State) → Fine an w s → Runs an w s frame → Held an frame map s → Inside frame (of_expr e) (stats_of_expr e)
      → Placed an frame (seen_expr (rules_of an frame) map e) → Marked an frame (found (rules_of an frame) (seen_of an frame) [] e) → value l frame e s ≡ Gave v t
      → (vs : List Value) × Evaluated an w s frame map e vs t
  value_evaluated w s map e v t f r h inside placed marked q = by_value (value_gave l frame e s v t q)
    where
      by_value : (vs : List Value) × (l.values frame e s ≡ Gave vs t) × (v ≡ first vs) → (vs : List Value) × Evaluated an w s frame map e vs t
      by_value (vs, k, same) = (vs, evaluated an l fwd bwd w s frame map e [] f r h inside placed marked vs t k)

  items_backward : (w : World) (s : State) (map : TypeMap) (items : Items) (fields : List heaps.Field) → Fine an w s → Runs an w s frame → Held an frame map s
      → Inside frame (of_items items) (stats_of_items items) → Placed an frame (seen_items (rules_of an frame) map items)
      → Marked an frame (found_items (rules_of an frame) (seen_of an frame) items) → (out : List heaps.Field) (u : State) → item_fields l frame items fields s ≡ Gave out u
      → Quiet (ev_items (rules_of an frame) (seen_of an frame) items) s u
  unfolding ◌>>=◌ give
  items_backward w s map no_items fields f r h inside placed marked out u q =
      (none_violated an frame s, ap (λ (t : State). reached an frame.activation t.trace) (sym (gave_same fields out s u q).1))
  items_backward w s map (more_items (Field name e) rest) fields f r h inside placed marked out u q = by_value
      (gave_then (value l frame e s) (λ v. item_fields l frame rest (heaps.written name v fields)) out u q)
      (λ z t v g j held k. items_backward z t (after (rules_of an frame) map e) rest (heaps.written name v fields) g j held
      (inside_right frame (of_expr e) (of_items rest) (stats_of_expr e) (stats_of_items rest) inside)
      (sub_right (seen_expr (rules_of an frame) map e) (seen_items (rules_of an frame) (after (rules_of an frame) map e) rest) (seen_of an frame) placed)
      (sub_right (found (rules_of an frame) (seen_of an frame) [] e) (found_items (rules_of an frame) (seen_of an frame) rest) (findings (rules_of an frame)) marked) out u k)
    where
      marked_first : Marked an frame (found (rules_of an frame) (seen_of an frame) [] e)
      marked_first = sub_left (found (rules_of an frame) (seen_of an frame) [] e) (found_items (rules_of an frame) (seen_of an frame) rest) (findings (rules_of an frame)) marked

      by_value : (v : Value) × (t : State) × (value l frame e s ≡ Gave v t) × (item_fields l frame rest (heaps.written name v fields) t ≡ Gave out u)
          → ((z : World) (t : State) (v : Value) → Fine an z t → Runs an z t frame → Held an frame (after (rules_of an frame) map e) t → item_fields l frame rest (heaps.written name v fields) t ≡ Gave out u
          → Quiet (ev_items (rules_of an frame) (seen_of an frame) rest) t u)
          → Quiet (ev_items (rules_of an frame) (seen_of an frame) (more_items (Field name e) rest)) s u
      by_value (v, t, gave_value, gave_rest) again =
          let p : (vs : List Value) × Evaluated an w s frame map e vs t = value_evaluated w s map e v t f r h
          (inside_left frame (of_expr e) (of_items rest) (stats_of_expr e) (stats_of_items rest) inside)
          (sub_left (seen_expr (rules_of an frame) map e) (seen_items (rules_of an frame) (after (rules_of an frame) map e) rest) (seen_of an frame) placed) marked_first gave_value in
          value_quiet w s map e (ev_items (rules_of an frame) (seen_of an frame) rest) p.0 t u f r marked_first p.1 (again p.1.world t v p.1.fine p.1.runs p.1.held gave_rest)
  items_backward w s map (more_items (Plain e) rest) fields f r h inside placed marked out u q = by_values
      (gave_then (l.values frame e s) (λ vs. item_fields l frame rest fields) out u q)
      (λ z t g j held k. items_backward z t (after (rules_of an frame) map e) rest fields g j held
      (inside_right frame (of_expr e) (of_items rest) (stats_of_expr e) (stats_of_items rest) inside)
      (sub_right (seen_expr (rules_of an frame) map e) (seen_items (rules_of an frame) (after (rules_of an frame) map e) rest) (seen_of an frame) placed)
      (sub_right (found (rules_of an frame) (seen_of an frame) [] e) (found_items (rules_of an frame) (seen_of an frame) rest) (findings (rules_of an frame)) marked) out u k)
    where
      marked_first : Marked an frame (found (rules_of an frame) (seen_of an frame) [] e)
      marked_first = sub_left (found (rules_of an frame) (seen_of an frame) [] e) (found_items (rules_of an frame) (seen_of an frame) rest) (findings (rules_of an frame)) marked

      by_values : (vs : List Value) × (t : State) × (l.values frame e s ≡ Gave vs t) × (item_fields l frame rest fields t ≡ Gave out u)
          → ((z : World) (t : State) → Fine an z t → Runs an z t frame → Held an frame (after (rules_of an frame) map e) t → item_fields l frame rest fields t ≡ Gave out u
          → Quiet (ev_items (rules_of an frame) (seen_of an frame) rest) t u)
          → Quiet (ev_items (rules_of an frame) (seen_of an frame) (more_items (Plain e) rest)) s u
      by_values (vs, t, gave_values, gave_rest) again =
          let o : Evaluated an w s frame map e vs t = evaluated an l fwd bwd w s frame map e [] f r h
          (inside_left frame (of_expr e) (of_items rest) (stats_of_expr e) (stats_of_items rest) inside)
          (sub_left (seen_expr (rules_of an frame) map e) (seen_items (rules_of an frame) (after (rules_of an frame) map e) rest) (seen_of an frame) placed) marked_first vs t gave_values in
          value_quiet w s map e (ev_items (rules_of an frame) (seen_of an frame) rest) vs t u f r marked_first o (again o.world t o.fine o.runs o.held gave_rest)
  items_backward w s map (more_items (Keyed key e) rest) fields f r h inside placed marked out u q = by_key
      (gave_then (value l frame key s) (λ k. ◌>>=◌ (value l frame e) (λ v. ◌>>=◌ (keyed_field k v fields) (λ more. item_fields l frame rest more))) out u q)
      (λ z t more g j held k. items_backward z t (after_part (effects (rules_of an frame) key || effects (rules_of an frame) e) map) rest more g j held
      (inside_right frame (of_expr key ++ of_expr e) (of_items rest) (stats_of_expr key ++ stats_of_expr e) (stats_of_items rest) inside)
      (sub_right (seen_expr (rules_of an frame) map key ++ seen_expr (rules_of an frame) (after (rules_of an frame) map key) e)
      (seen_items (rules_of an frame) (after_part (effects (rules_of an frame) key || effects (rules_of an frame) e) map) rest) (seen_of an frame) placed)
      (sub_right (found (rules_of an frame) (seen_of an frame) [] key ++ found (rules_of an frame) (seen_of an frame) [] e) (found_items (rules_of an frame) (seen_of an frame) rest)
      (findings (rules_of an frame)) marked) out u k)
    where
      inside_both : Inside frame (of_expr key ++ of_expr e) (stats_of_expr key ++ stats_of_expr e)
      inside_both = inside_left frame (of_expr key ++ of_expr e) (of_items rest) (stats_of_expr key ++ stats_of_expr e) (stats_of_items rest) inside

      placed_both : Placed an frame (seen_expr (rules_of an frame) map key ++ seen_expr (rules_of an frame) (after (rules_of an frame) map key) e)
      placed_both = sub_left (seen_expr (rules_of an frame) map key ++ seen_expr (rules_of an frame) (after (rules_of an frame) map key) e)
          (seen_items (rules_of an frame) (after_part (effects (rules_of an frame) key || effects (rules_of an frame) e) map) rest) (seen_of an frame) placed

      marked_both : Marked an frame (found (rules_of an frame) (seen_of an frame) [] key ++ found (rules_of an frame) (seen_of an frame) [] e)
      marked_both = sub_left (found (rules_of an frame) (seen_of an frame) [] key ++ found (rules_of an frame) (seen_of an frame) [] e) (found_items (rules_of an frame) (seen_of an frame) rest)
          (findings (rules_of an frame)) marked

      marked_key : Marked an frame (found (rules_of an frame) (seen_of an frame) [] key)
      marked_key = sub_left (found (rules_of an frame) (seen_of an frame) [] key) (found (rules_of an frame) (seen_of an frame) [] e) (findings (rules_of an frame)) marked_both

      marked_value : Marked an frame (found (rules_of an frame) (seen_of an frame) [] e)
      marked_value = sub_right (found (rules_of an frame) (seen_of an frame) [] key) (found (rules_of an frame) (seen_of an frame) [] e) (findings (rules_of an frame)) marked_both

      Again : Type 0
      Again = (z : World) (t : State) (more : List heaps.Field) → Fine an z t → Runs an z t frame
          → Held an frame (after_part (effects (rules_of an frame) key || effects (rules_of an frame) e) map) t → item_fields l frame rest more t ≡ Gave out u
          → Quiet (ev_items (rules_of an frame) (seen_of an frame) rest) t u

      by_key : (k : Value) × (a : State) × (value l frame key s ≡ Gave k a)
          × (◌>>=◌ (value l frame e) (λ v. ◌>>=◌ (keyed_field k v fields) (λ more. item_fields l frame rest more)) a ≡ Gave out u)
          → Again → Quiet (ev_items (rules_of an frame) (seen_of an frame) (more_items (Keyed key e) rest)) s u
      by_key (k, a, gave_key, gave_value) again =
          let p : (vs : List Value) × Evaluated an w s frame map key vs a = value_evaluated w s map key k a f r h
          (inside_left frame (of_expr key) (of_expr e) (stats_of_expr key) (stats_of_expr e) inside_both)
          (sub_left (seen_expr (rules_of an frame) map key) (seen_expr (rules_of an frame) (after (rules_of an frame) map key) e) (seen_of an frame) placed_both) marked_key gave_key in
          by_value p.0 p.1 (gave_then (value l frame e a) (λ v. ◌>>=◌ (keyed_field k v fields) (λ more. item_fields l frame rest more)) out u gave_value)
        where
          by_value : (vs : List Value) → Evaluated an w s frame map key vs a → (v : Value) × (b : State) × (value l frame e a ≡ Gave v b)
              × (◌>>=◌ (keyed_field k v fields) (λ more. item_fields l frame rest more) b ≡ Gave out u)
              → Quiet (ev_items (rules_of an frame) (seen_of an frame) (more_items (Keyed key e) rest)) s u
          by_value vs o (v, b, gave_v, gave_field) =
              let p : (xs : List Value) × Evaluated an o.world a frame (after (rules_of an frame) map key) e xs b = value_evaluated o.world a (after (rules_of an frame) map key) e v b o.fine o.runs o.held
              (inside_right frame (of_expr key) (of_expr e) (stats_of_expr key) (stats_of_expr e) inside_both)
              (sub_right (seen_expr (rules_of an frame) map key) (seen_expr (rules_of an frame) (after (rules_of an frame) map key) e) (seen_of an frame) placed_both) marked_value gave_v in
              by_field p.0 p.1 (gave_then (keyed_field k v fields b) (λ more. item_fields l frame rest more) out u gave_field)
            where
              by_field : (xs : List Value) → Evaluated an o.world a frame (after (rules_of an frame) map key) e xs b
                  → (more : List heaps.Field) × (t : State) × (keyed_field k v fields b ≡ Gave more t) × (item_fields l frame rest more t ≡ Gave out u)
                  → Quiet (ev_items (rules_of an frame) (seen_of an frame) (more_items (Keyed key e) rest)) s u
              by_field xs i (more, t, gave_more, gave_rest) = by_end (ends_gave an both_who i.world b (λ more t. Same b t × IsKeyed k v fields more) (keyed_field k v fields b) more t gave_more (keyed_ends an both_who i.world b k v fields i.fine))
                where
                  both_who : Doer
                  both_who = part_of frame (effects (rules_of an frame) key || effects (rules_of an frame) e)

                  kept_both : Kept an (part_of frame (effects (rules_of an frame) key || effects (rules_of an frame) e)) w s i.world b
                  kept_both = kept_trans an (part_of frame (effects (rules_of an frame) key || effects (rules_of an frame) e)) w o.world i.world s a b
                      (kept_more an (expr_of an frame key) (part_of frame (effects (rules_of an frame) key || effects (rules_of an frame) e)) w o.world s a
                      (may_first frame (effects (rules_of an frame) key) (effects (rules_of an frame) e)) o.kept)
                      (kept_more an (expr_of an frame e) (part_of frame (effects (rules_of an frame) key || effects (rules_of an frame) e)) o.world i.world a b
                      (may_second frame (effects (rules_of an frame) key) (effects (rules_of an frame) e)) i.kept)

                  by_end : (z : World) × Fine an z t × Kept an (part_of frame (effects (rules_of an frame) key || effects (rules_of an frame) e)) i.world b z t × (Same b t × IsKeyed k v fields more)
                      → Quiet (ev_items (rules_of an frame) (seen_of an frame) (more_items (Keyed key e) rest)) s u
                  by_end (z, g, kept, known) = (λ y. unviolated y, counts)
                    where
                      kept_all : Kept an (part_of frame (effects (rules_of an frame) key || effects (rules_of an frame) e)) w s z t
                      kept_all = kept_trans an (part_of frame (effects (rules_of an frame) key || effects (rules_of an frame) e)) w i.world z s b t kept_both kept

                      rest_quiet : Quiet (ev_items (rules_of an frame) (seen_of an frame) rest) t u
                      rest_quiet = again z t more g (runs_kept an (part_of frame (effects (rules_of an frame) key || effects (rules_of an frame) e)) w z s t frame kept_all r)
                          (held_after an w z s t frame map (effects (rules_of an frame) key || effects (rules_of an frame) e) f r kept_all h) gave_rest

                      counts : reached an frame.activation u.trace ≡ reached an frame.activation s.trace
                      counts = rest_quiet.1 ∙ (ap (λ trace. reached an frame.activation trace) (key_counts an both_who i.world b k v fields more t i.fine gave_more).1
                          ∙ (unchecked_count an o.world a frame e xs a b fit o.runs marked_value i.pays ∙ unchecked_count an w s frame key vs s a fit r marked_key o.pays))

                      unviolated : Violated an frame (ev_items (rules_of an frame) (seen_of an frame) (more_items (Keyed key e) rest)) s → ⊥
                      unviolated y = by_outer (violated_followed an w z s t frame
                          (followed (ev (rules_of an frame) (seen_of an frame) key never) (effects (rules_of an frame) key) (ev (rules_of an frame) (seen_of an frame) e never))
                          (ev_items (rules_of an frame) (seen_of an frame) rest) (effects (rules_of an frame) key || effects (rules_of an frame) e) f r kept_all y)
                        where
                          by_inner : Violated an frame (ev (rules_of an frame) (seen_of an frame) key never) s ⊎ Violated an frame (ev (rules_of an frame) (seen_of an frame) e never) a → ⊥
                          by_inner (inl x) = unchecked_context an frame key s vs a o.pays x
                          by_inner (inr x) = unchecked_context an frame e a xs b i.pays x

                          by_outer : Violated an frame (followed (ev (rules_of an frame) (seen_of an frame) key never) (effects (rules_of an frame) key) (ev (rules_of an frame) (seen_of an frame) e never)) s
                              ⊎ Violated an frame (ev_items (rules_of an frame) (seen_of an frame) rest) t → ⊥
                          by_outer (inl x) = by_inner (violated_followed an w o.world s a frame (ev (rules_of an frame) (seen_of an frame) key never) (ev (rules_of an frame) (seen_of an frame) e never)
                              (effects (rules_of an frame) key) f r o.kept x)
                          by_outer (inr x) = rest_quiet.0 x

pub table_backward : (an : Analysis) (l : Layer) → Fit an → Forward an l → Backward an l → (w : World) (s : State) (frame : Frame) (map : TypeMap) (id : ℕ) (span : _) (items : Items)
    (around : List ReportKind) → Fine an w s → Runs an w s frame → Held an frame map s
    → Inside frame (of_expr (the_expr id span (TableExpr items))) (stats_of_expr (the_expr id span (TableExpr items)))
    → Placed an frame (seen_expr (rules_of an frame) map (the_expr id span (TableExpr items)))
    → Marked an frame (found (rules_of an frame) (seen_of an frame) around (the_expr id span (TableExpr items)))
    → (vs : List Value) (u : State) → values an.program l frame (the_expr id span (TableExpr items)) s ≡ Gave vs u → Pays an frame (the_expr id span (TableExpr items)) s vs u
unfolding ◌>>=◌ give look change
table_backward an l fit fwd bwd w s frame map id span items around f r h inside placed marked vs u q =
    form_backward an l w s frame id span (TableExpr items) vs u fit (table_form items) f r inside q
    (λ z m g j same k. by_one z m g j (held_store an s m frame map same h)
    (one_gave (◌>>=◌ (item_fields l frame items []) (λ fields. ◌>>=◌ (make_table fields) (λ address. give (Tab address)))) m vs u k))
  where
    by_one : (z : World) (m : State) → Fine an z m → Runs an z m frame → Held an frame map m
        → (v : Value) × (◌>>=◌ (item_fields l frame items []) (λ fields. ◌>>=◌ (make_table fields) (λ address. give (Tab address))) m ≡ Gave v u) × (vs ≡ v ∷ [])
        → FormPays an frame id (TableExpr items) m vs u
    by_one z m g j held (v, k, e) = by_items (gave_then (item_fields l frame items [] m) (λ fields. ◌>>=◌ (make_table fields) (λ address. give (Tab address))) v u k)
      where
        by_items : (out : List heaps.Field) × (t : State) × (item_fields l frame items [] m ≡ Gave out t) × (◌>>=◌ (make_table out) (λ address. give (Tab address)) t ≡ Gave v u)
            → FormPays an frame id (TableExpr items) m vs u
        by_items (out, t, n, c) = finish
            (items_backward an l fit fwd bwd frame z m map items [] g j held (within_table frame id span items inside) (sub_tail _ (seen_items (rules_of an frame) map items) (seen_of an frame) placed)
            (sub_tail _ _ _ marked) out t n)
            (gave_same (Tab (length t.store.heap)) v (with_heap (with_table out t.store.heap) t) u (made_so out t ∙ c))
          where
            made_so : (out : List heaps.Field) (t : State) → Gave (Tab (length t.store.heap)) (with_heap (with_table out t.store.heap) t) ≡ ◌>>=◌ (make_table out) (λ address. give (Tab address)) t
            made_so out t = refl

            finish : (Violated an frame (ev_items (rules_of an frame) (seen_of an frame) items) m → ⊥) × (reached an frame.activation t.trace ≡ reached an frame.activation m.trace)
                → (Tab (length t.store.heap) ≡ v) × (with_heap (with_table out t.store.heap) t ≡ u) → FormPays an frame id (TableExpr items) m vs u
            finish p d = record {
              context = λ set y. absurd (p.0 y);
              count = ap (λ (x : State). reached an frame.activation x.trace) (sym d.1) ∙ p.1;
              own = refl;
            }
