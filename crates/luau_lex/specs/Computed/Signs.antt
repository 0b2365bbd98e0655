-- Signs, computed.
use Rattle.std.specs.Prelude.{ℕ, Bool, ◌||◌, ◌==◌, List, slice_index, if◌then◌else◌}
use Rattle.luau_lex.specs.Bytes.{minus, dot, slash, colon, equals}

-- what an equals sign may follow, to make a longer sign: + * % ^ = < >
abbrev pub takes_equals : ℕ → Bool
takes_equals b =
    (b == 43) || (b == 42) || (b == 37) || (b == 94) || (b == 61) || (b == 60) || (b == 62)

-- what is a sign by itself alone: # ( ) { } [ ] ; , ? | & @
abbrev pub stands_alone : ℕ → Bool
stands_alone b =
    (b == 35) || (b == 40) || (b == 41) || (b == 123) || (b == 125) || (b == 91) || (b == 93)
    || (b == 59)
    || (b == 44) || (b == 63) || (b == 124) || (b == 38) || (b == 64)

-- the length of the longest sign that begins with these three bytes, or 0
unfoldable pub sign_len_of : ℕ → ℕ → ℕ → ℕ
sign_len_of a b c =
    if a == dot then (if b == dot then (if (c == dot) || (c == equals) then 3 else 2) else 1)
    else (if a == slash
    then (if b == slash then (if c == equals then 3 else 2) else (if b == equals then 2 else 1))
    else (if takes_equals a then (if b == equals then 2 else 1)
    else (if a == 126 then (if b == equals then 2 else 0)
    else (if a == minus then (if (b == equals) || (b == 62) then 2 else 1)
    else (if a == colon then (if b == colon then 2 else 1)
    else (if stands_alone a then 1 else 0))))))

-- the length of the longest sign at the front, or 0
abbrev pub sign_len : List ℕ → ℕ
sign_len text = sign_len_of (slice_index text 0) (slice_index text 1) (slice_index text 2)
