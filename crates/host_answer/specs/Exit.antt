-- Lent words: what a call over them leaves, its answer and the words when it returns.
use Rattle.std.specs.Prelude.{ℕ, List, Bool, ltb}
use Rattle.refusal.specs.declared.Refusal.TheVariants.{State}
use Rattle.host_answer.specs.Answer.{refusal_answer}

pub record WordsExit : Type 0 where
  pub answer : ℕ
  pub words : List ℕ

abbrev pub words_exit : ℕ → List ℕ → WordsExit
words_exit answer words = record { answer = answer; words = words }

-- a word that isn't a number of 32 bits
abbrev pub wide : ℕ → Bool
wide n = ltb 4294967295 n

-- words that hold no such state: 9, and nothing is changed
abbrev pub broken_words : List ℕ → WordsExit
broken_words state = words_exit (refusal_answer State) state
