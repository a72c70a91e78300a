-- Letters of a text by their codes.
use Rattle.std.specs.Prelude.{ℕ}
use Prim.Native.Char.{code}

abbrev pub digit_zero : ℕ
digit_zero = code "0"

abbrev pub digit_nine : ℕ
digit_nine = code "9"

abbrev pub small_a : ℕ
small_a = code "a"

abbrev pub small_f : ℕ
small_f = code "f"

abbrev pub blank : ℕ
blank = code " "

abbrev pub tab : ℕ
tab = code "\t"

abbrev pub line_feed : ℕ
line_feed = code "\n"

abbrev pub comma : ℕ
comma = code ","
