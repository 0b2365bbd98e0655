-- What types become where fields of tables that aren't frozen may have been written: any field, or those of one name.
use Rattle.std.specs.Prelude.{◌≡◌, ℕ, Bool, true, not, ◌||◌, List, [], ◌∷◌, Some, IsTrue, if◌then◌else◌}
use Rattle.std.specs.Str.{bytes_eq}
use Rattle.std.specs.HashMap.{get, HashMap}
use Rattle.std.specs.declared.hash.FoldHasher.{FoldHasher}
use Rattle.std.specs.declared.hash.BuildHasherDefault.{BuildHasherDefault}
use Rattle.type_arena.specs.Arena.{store_of}
use Rattle.type_arena.specs.Meaning.{term_of}
use Rattle.type_arena.specs.Store.{has}
use Rattle.type_arena.specs.Term.{Term, term, Rows, no_rows, more_rows, Fields, no_fields, more_fields}
use Rattle.type_arena.specs.declared.arena.Arena.{Arena}
use Rattle.type_arena.specs.declared.node.TypeRef.{TypeRef}
use Rattle.type_arena.specs.contracts.node.TypeRefPartialEq.TheImpl as TypeRefEq
use Rattle.type_normal.specs.Rows.{put_normal}
use Rattle.type_normal.specs.Growing.{given_refs, IsClean}
use Rattle.type_ops.specs.declared.written.Written.{Written}
use Rattle.type_ops.specs.declared.written.Written.TheVariants.{AnyField, Named}

-- whether a field of this name may have been written
abbrev pub may_be_written : Written → List ℕ → Bool
may_be_written AnyField name = true
may_be_written (Named own) name = bytes_eq name own

-- what a type becomes: rows that aren't frozen lose the fields that may have been written, at every depth
abbrev mutual
  pub changed : Written → Term → Term
  changed written (term free rows) = term free (changed_rows written rows)

  pub changed_rows : Written → Rows → Rows
  changed_rows written no_rows = no_rows
  changed_rows written (more_rows frozen fields rows) = put_normal frozen (changed_fields written frozen fields) (changed_rows written rows)

  pub changed_fields : Written → Bool → Fields → Fields
  changed_fields written frozen no_fields = no_fields
  changed_fields written frozen (more_fields name type fields) =
      if frozen || not (may_be_written written name) then more_fields name (changed written type) (changed_fields written frozen fields)
      else changed_fields written frozen fields

-- the rows themselves, before they are put in normal form
abbrev pub raw_rows : Written → Rows → Rows
raw_rows written no_rows = no_rows
raw_rows written (more_rows frozen fields rows) = more_rows frozen (changed_fields written frozen fields) (raw_rows written rows)

-- what a type was found to become
pub record IsChange (written : Written) (arena : Arena) (at new : TypeRef) : Type 0 where
  pub there : IsTrue (has (store_of arena) at)
  pub made : IsTrue (has (store_of arena) new)
  pub means : term_of (store_of arena) new ≡ changed written (term_of (store_of arena) at)
  pub clean : IsClean arena arena (given_refs (at ∷ [])) new

-- a memory of what types become
abbrev pub Changes : Type 0
Changes = HashMap TypeRef TypeRef (BuildHasherDefault FoldHasher)

-- what is remembered is right
abbrev pub AreChanges : Written → Arena → Changes → Type 0
AreChanges written arena known = (at new : TypeRef) → get TypeRefEq.ghosts.eq known at ≡ Some new → IsChange written arena at new
