-- Why a file isn't checked.
use Rattle.std.specs.Prelude.{ℕ, List, codes}
use Rattle.source_files.specs.declared.reason.Reason.{Reason}
use Rattle.source_files.specs.declared.reason.Reason.TheVariants.{FileTooLarge, DirectoryModule, RepeatedName, UnfinishedString, UnfinishedComment, BadEscape, BadNumeral, StrayByte, DoubleBrace, UnexpectedToken, UnexpectedEnd, AmbiguousCall, Nesting, Profile, MissingModule, RequireCycle}
use Rattle.source_files.specs.Profile.{profile_text}

-- a reason as it is told
abbrev pub reason_text : Reason → List ℕ
reason_text FileTooLarge = codes "file too large"
reason_text DirectoryModule = codes "directory module"
reason_text RepeatedName = codes "repeated module name"
reason_text UnfinishedString = codes "unfinished string"
reason_text UnfinishedComment = codes "unfinished comment"
reason_text BadEscape = codes "bad escape"
reason_text BadNumeral = codes "bad numeral"
reason_text StrayByte = codes "stray byte"
reason_text DoubleBrace = codes "interpolation brace"
reason_text UnexpectedToken = codes "unexpected token"
reason_text UnexpectedEnd = codes "unexpected end"
reason_text AmbiguousCall = codes "ambiguous call"
reason_text Nesting = codes "nesting"
reason_text (Profile why) = profile_text why
reason_text MissingModule = codes "missing module"
reason_text RequireCycle = codes "require cycle"
