-- The builtins that are declared where no declaration file is named.
use Rattle.std.specs.Prelude.{ℕ, Bool, true, false, List, [], ◌∷◌, ◌++◌, map, Option, Some, None, option_map, codes}
use Rattle.std.specs.List.{find}
use Rattle.std.specs.Str.{bytes_eq}
use Rattle.std.specs.declared.cmp.Ordering.{Ordering}
use Rattle.luau_tree.specs.Sorted.{bytes_cmp, sorted_by}
use Rattle.builtin_table.specs.declared.table.Kinds.{Kinds}
use Rattle.builtin_table.specs.declared.table.Kinds.TheVariants.{Unknown, Number, Text, Boolean, Table, Function, OptionalNumber, OptionalText, OptionalBoolean, OptionalFunction, TableOrOther}
use Rattle.builtin_table.specs.declared.table.Line.{Line}
use Rattle.builtin_table.specs.declared.table.Line.TheVariants.{Abs, Pow, Max, Log, Clamp, Random, Modf, Lower, Len, Byte, Char, Rep, Sub, FindText, Match, Gmatch, Format, Split, Gsub, Concat, Unpack, FindValue, Copy, IsFrozen, Pack, Create, Insert, Remove, Sort, Clear, Band, Bnot, Shift, Clock, ToNumber, TypeName, Print, Pairs, Next, RawGet, RawSet, RawEqual, Select, Error, Catch}

-- what a builtin's arguments and results are in: `rest` speaks of the arguments past the parameters, which are free without
-- it, and `more` of the results past the declared ones, of which there are none without it. A checked builtin fails on other
-- arguments; a quiet one writes no field of a table that was there, and calls nothing
pub record Declared : Type 0 where
  pub params : List Kinds
  pub rest : Option Kinds
  pub results : List Kinds
  pub more : Option Kinds
  pub checked : Bool
  pub quiet : Bool

-- a line of the table: the paths of some builtins, and what is declared of each
pub record Row : Type 0 where
  pub paths : List (List ℕ)
  pub declared : Declared

-- how a builtin is marked
pub record Marks : Type 0 where
  pub is_checked : Bool
  pub is_quiet : Bool

abbrev pub unmarked : Marks
unmarked = record { is_checked = false; is_quiet = false }

abbrev pub only_checked : Marks
only_checked = record { is_checked = true; is_quiet = false }

abbrev pub only_quiet : Marks
only_quiet = record { is_checked = false; is_quiet = true }

abbrev pub checked_quiet : Marks
checked_quiet = record { is_checked = true; is_quiet = true }

-- a line as it is written: marks, paths, parameters and what is past them, results and what is past them
abbrev pub row : Marks → List (List ℕ) → List Kinds → Option Kinds → List Kinds → Option Kinds → Row
row marks paths params rest results more = record {
  paths = paths;
  declared = record { params = params; rest = rest; results = results; more = more; checked = marks.is_checked; quiet = marks.is_quiet };
}

-- the table
abbrev pub row_of : Line → Row
row_of Abs = row checked_quiet (codes "math.abs" ∷ codes "math.acos" ∷ codes "math.asin" ∷ codes "math.atan" ∷ codes "math.ceil" ∷
    codes "math.cos" ∷ codes "math.cosh" ∷ codes "math.deg" ∷ codes "math.exp" ∷ codes "math.floor" ∷
    codes "math.log10" ∷ codes "math.rad" ∷ codes "math.round" ∷ codes "math.sign" ∷ codes "math.sin" ∷
    codes "math.sinh" ∷ codes "math.sqrt" ∷ codes "math.tan" ∷ codes "math.tanh" ∷ []) (Number ∷ []) None (Number ∷ []) None
row_of Pow = row checked_quiet (codes "math.atan2" ∷ codes "math.fmod" ∷ codes "math.ldexp" ∷ codes "math.pow" ∷ []) (Number ∷ Number ∷ []) None (Number ∷ []) None
row_of Max = row checked_quiet (codes "math.max" ∷ codes "math.min" ∷ []) (Number ∷ []) (Some Number) (Number ∷ []) None
row_of Log = row checked_quiet (codes "math.log" ∷ []) (Number ∷ OptionalNumber ∷ []) None (Number ∷ []) None
row_of Clamp = row checked_quiet (codes "math.clamp" ∷ []) (Number ∷ Number ∷ Number ∷ []) None (Number ∷ []) None
row_of Random = row checked_quiet (codes "math.random" ∷ []) (OptionalNumber ∷ OptionalNumber ∷ []) None (Number ∷ []) None
row_of Modf = row checked_quiet (codes "math.modf" ∷ codes "math.frexp" ∷ []) (Number ∷ []) None (Number ∷ Number ∷ []) None
row_of Lower = row checked_quiet (codes "string.lower" ∷ codes "string.upper" ∷ codes "string.reverse" ∷ []) (Text ∷ []) None (Text ∷ []) None
row_of Len = row checked_quiet (codes "string.len" ∷ []) (Text ∷ []) None (Number ∷ []) None
row_of Byte = row checked_quiet (codes "string.byte" ∷ []) (Text ∷ OptionalNumber ∷ OptionalNumber ∷ []) None [] (Some Number)
row_of Char = row checked_quiet (codes "string.char" ∷ codes "utf8.char" ∷ []) [] (Some Number) (Text ∷ []) None
row_of Rep = row checked_quiet (codes "string.rep" ∷ []) (Text ∷ Number ∷ []) None (Text ∷ []) None
row_of Sub = row checked_quiet (codes "string.sub" ∷ []) (Text ∷ Number ∷ OptionalNumber ∷ []) None (Text ∷ []) None
row_of FindText = row checked_quiet (codes "string.find" ∷ []) (Text ∷ Text ∷ OptionalNumber ∷ OptionalBoolean ∷ []) None (OptionalNumber ∷ OptionalNumber ∷ []) (Some Unknown)
row_of Match = row checked_quiet (codes "string.match" ∷ []) (Text ∷ Text ∷ OptionalNumber ∷ []) None [] (Some Unknown)
row_of Gmatch = row checked_quiet (codes "string.gmatch" ∷ []) (Text ∷ Text ∷ []) None (Function ∷ []) None
row_of Format = row checked_quiet (codes "string.format" ∷ []) (Text ∷ []) (Some Unknown) (Text ∷ []) None
row_of Split = row checked_quiet (codes "string.split" ∷ []) (Text ∷ OptionalText ∷ []) None (Table ∷ []) None
row_of Gsub = row only_checked (codes "string.gsub" ∷ []) (Text ∷ Text ∷ Unknown ∷ OptionalNumber ∷ []) None (Text ∷ Number ∷ []) None
row_of Concat = row checked_quiet (codes "table.concat" ∷ []) (Table ∷ OptionalText ∷ OptionalNumber ∷ OptionalNumber ∷ []) None (Text ∷ []) None
row_of Unpack = row checked_quiet (codes "table.unpack" ∷ codes "unpack" ∷ []) (Table ∷ OptionalNumber ∷ OptionalNumber ∷ []) None [] (Some Unknown)
row_of FindValue = row checked_quiet (codes "table.find" ∷ []) (Table ∷ Unknown ∷ OptionalNumber ∷ []) None (OptionalNumber ∷ []) None
row_of Copy = row checked_quiet (codes "table.clone" ∷ codes "table.freeze" ∷ []) (Table ∷ []) None (Table ∷ []) None
row_of IsFrozen = row checked_quiet (codes "table.isfrozen" ∷ []) (Table ∷ []) None (Boolean ∷ []) None
row_of Pack = row only_quiet (codes "table.pack" ∷ []) [] (Some Unknown) (Table ∷ []) None
row_of Create = row checked_quiet (codes "table.create" ∷ []) (Number ∷ Unknown ∷ []) None (Table ∷ []) None
row_of Insert = row only_checked (codes "table.insert" ∷ []) (Table ∷ []) (Some Unknown) [] None
row_of Remove = row only_checked (codes "table.remove" ∷ []) (Table ∷ OptionalNumber ∷ []) None (Unknown ∷ []) None
row_of Sort = row only_checked (codes "table.sort" ∷ []) (Table ∷ OptionalFunction ∷ []) None [] None
row_of Clear = row only_checked (codes "table.clear" ∷ []) (Table ∷ []) None [] None
row_of Band = row checked_quiet (codes "bit32.band" ∷ codes "bit32.bor" ∷ codes "bit32.bxor" ∷ []) [] (Some Number) (Number ∷ []) None
row_of Bnot = row checked_quiet (codes "bit32.bnot" ∷ []) (Number ∷ []) None (Number ∷ []) None
row_of Shift = row checked_quiet (codes "bit32.lshift" ∷ codes "bit32.rshift" ∷ codes "bit32.arshift" ∷ codes "bit32.lrotate" ∷ codes "bit32.rrotate" ∷ []) (Number ∷ Number ∷ []) None (Number ∷ []) None
row_of Clock = row checked_quiet (codes "os.clock" ∷ []) [] None (Number ∷ []) None
row_of ToNumber = row checked_quiet (codes "tonumber" ∷ []) (Unknown ∷ OptionalNumber ∷ []) None (OptionalNumber ∷ []) None
row_of TypeName = row only_quiet (codes "type" ∷ codes "typeof" ∷ codes "tostring" ∷ []) (Unknown ∷ []) None (Text ∷ []) None
row_of Print = row only_quiet (codes "print" ∷ []) [] (Some Unknown) [] None
row_of Pairs = row checked_quiet (codes "pairs" ∷ codes "ipairs" ∷ []) (TableOrOther ∷ []) None (Function ∷ Unknown ∷ Unknown ∷ []) None
row_of Next = row checked_quiet (codes "next" ∷ []) (Table ∷ Unknown ∷ []) None (Unknown ∷ Unknown ∷ []) None
row_of RawGet = row checked_quiet (codes "rawget" ∷ []) (TableOrOther ∷ Unknown ∷ []) None (Unknown ∷ []) None
row_of RawSet = row only_checked (codes "rawset" ∷ []) (TableOrOther ∷ Unknown ∷ Unknown ∷ []) None (Unknown ∷ []) None
row_of RawEqual = row only_quiet (codes "rawequal" ∷ []) (Unknown ∷ Unknown ∷ []) None (Boolean ∷ []) None
row_of Select = row only_quiet (codes "select" ∷ codes "assert" ∷ []) [] (Some Unknown) [] (Some Unknown)
row_of Error = row unmarked (codes "error" ∷ []) [] (Some Unknown) [] None
row_of Catch = row unmarked (codes "pcall" ∷ codes "xpcall" ∷ []) [] (Some Unknown) (Boolean ∷ []) (Some Unknown)

-- the lines from the first to the last
abbrev pub lines : List Line
lines =
    Abs ∷ Pow ∷ Max ∷ Log ∷ Clamp ∷ Random ∷ Modf ∷ Lower ∷ Len ∷
    Byte ∷ Char ∷ Rep ∷ Sub ∷ FindText ∷ Match ∷ Gmatch ∷ Format ∷ Split ∷
    Gsub ∷ Concat ∷ Unpack ∷ FindValue ∷ Copy ∷ IsFrozen ∷ Pack ∷ Create ∷ Insert ∷
    Remove ∷ Sort ∷ Clear ∷ Band ∷ Bnot ∷ Shift ∷ Clock ∷ ToNumber ∷ TypeName ∷
    Print ∷ Pairs ∷ Next ∷ RawGet ∷ RawSet ∷ RawEqual ∷ Select ∷ Error ∷ Catch ∷ []

-- what a line declares
abbrev pub declared_by : Line → Declared
declared_by line = (row_of line).declared

-- the paths of some lines, each with its line
abbrev pub listed : List Line → List (List ℕ × Line)
listed [] = []
listed (line ∷ rest) = map (λ path. (path, line)) (row_of line).paths ++ listed rest

-- paths by their bytes, with whatever lines
abbrev pub entry_cmp : List ℕ × Line → List ℕ × Line → Ordering
entry_cmp a b = bytes_cmp a.0 b.0

-- all declared paths in their order, each with its line
unfoldable pub standard : List (List ℕ × Line)
standard = sorted_by entry_cmp (listed lines)

-- the paths alone
unfoldable pub standard_paths : List (List ℕ)
unfolding standard
standard_paths = map (λ entry. entry.0) standard

-- what is declared of a path, if it is declared
unfoldable pub declaration : List ℕ → Option Declared
unfolding standard
declaration path = option_map (λ entry. declared_by entry.1) (find (λ entry. bytes_eq entry.0 path) standard)
