-- The part of a type that names no field: whether nil, true, false, numbers and values of no other kind belong to it, and
-- which strings and which functions do.
use Rattle.std.specs.Prelude.{ℕ, Bool, true, false, not, ◌&&◌, ◌||◌, List, []}
use Rattle.std.specs.declared.cmp.Ordering.{Ordering}
use Rattle.std.specs.declared.cmp.Ordering.TheVariants.{Less, Greater}
use Rattle.std.specs.Ordering.{nat_cmp, bool_cmp, ordering_then}
use Rattle.std.specs.Cmp.Lexicographic.{slice_cmp}
use Rattle.type_arena.specs.Term.{only, all_but, Function, builtin, literal, Free}
use Rattle.luau_values.specs.Value.{Value, Nil, Truth, Num, Str, Tab, Lit, Builtin, Other}
use Rattle.type_normal.specs.Members.{is_member, either_set, both_sets, outside, is_no_set, is_whole_set, members_cmp, is_in_order, listed}

-- names are ordered byte by byte
abbrev pub name_cmp : List ℕ → List ℕ → Ordering
name_cmp = slice_cmp nat_cmp

-- builtins come before function literals; builtins are ordered by their paths, and literals by their home and number
abbrev pub function_cmp : Function → Function → Ordering
function_cmp (builtin path) (builtin other) = name_cmp path other
function_cmp (builtin path) (literal home number) = Less
function_cmp (literal home number) (builtin path) = Greater
function_cmp (literal home number) (literal other_home other) = ordering_then (nat_cmp home other_home) (nat_cmp number other)

-- nothing belongs to it
abbrev pub no_values : Free
no_values = record { nil = false; truth = false; falsity = false; number = false; other = false; strings = only []; functions = only [] }

-- everything but tables belongs to it
abbrev pub all_values : Free
all_values = record { nil = true; truth = true; falsity = true; number = true; other = true; strings = all_but []; functions = all_but [] }

-- whether a value belongs to it, where it is asked of a table by itself
abbrev pub belongs : Free → (ℕ → Bool) → Value → Bool
belongs free tables Nil = free.nil
belongs free tables (Truth true) = free.truth
belongs free tables (Truth false) = free.falsity
belongs free tables (Num text) = free.number
belongs free tables (Str bytes) = is_member name_cmp bytes free.strings
belongs free tables (Tab address) = tables address
belongs free tables (Lit home function cells) = is_member function_cmp (literal home function) free.functions
belongs free tables (Builtin path) = is_member function_cmp (builtin path) free.functions
belongs free tables (Other number) = free.other

-- what belongs to one of two
abbrev pub either_free : Free → Free → Free
either_free a b = record {
  nil = a.nil || b.nil;
  truth = a.truth || b.truth;
  falsity = a.falsity || b.falsity;
  number = a.number || b.number;
  other = a.other || b.other;
  strings = either_set name_cmp a.strings b.strings;
  functions = either_set function_cmp a.functions b.functions;
}

-- what belongs to both
abbrev pub both_free : Free → Free → Free
both_free a b = record {
  nil = a.nil && b.nil;
  truth = a.truth && b.truth;
  falsity = a.falsity && b.falsity;
  number = a.number && b.number;
  other = a.other && b.other;
  strings = both_sets name_cmp a.strings b.strings;
  functions = both_sets function_cmp a.functions b.functions;
}

-- what doesn't belong to it, tables aside
abbrev pub outside_free : Free → Free
outside_free a = record {
  nil = not a.nil;
  truth = not a.truth;
  falsity = not a.falsity;
  number = not a.number;
  other = not a.other;
  strings = outside a.strings;
  functions = outside a.functions;
}

-- whether it has no part, and whether it has all, by form
abbrev pub is_no_free : Free → Bool
is_no_free a = not a.nil && (not a.truth && (not a.falsity && (not a.number && (not a.other && (is_no_set a.strings && is_no_set a.functions)))))

abbrev pub is_whole_free : Free → Bool
is_whole_free a = a.nil && (a.truth && (a.falsity && (a.number && (a.other && (is_whole_set a.strings && is_whole_set a.functions)))))

-- how two compare: by their parts in their order, and what lacks a part comes first
abbrev pub free_cmp : Free → Free → Ordering
free_cmp a b =
    ordering_then (bool_cmp a.nil b.nil)
    (ordering_then (bool_cmp a.truth b.truth)
    (ordering_then (bool_cmp a.falsity b.falsity)
    (ordering_then (bool_cmp a.number b.number)
    (ordering_then (bool_cmp a.other b.other)
    (ordering_then (members_cmp name_cmp a.strings b.strings) (members_cmp function_cmp a.functions b.functions))))))

-- whether its lists are in order, each member once
abbrev pub is_normal_free : Free → Bool
is_normal_free a = is_in_order name_cmp (listed a.strings) && is_in_order function_cmp (listed a.functions)
