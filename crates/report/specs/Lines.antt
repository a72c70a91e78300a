-- A text in lines of one width: what fits in columns, the events that have room in the page's, and what is left of a
-- buffer where the page is written.
use Rattle.std.specs.Prelude.{ℕ, suc, ◌+◌, ◌*◌, ◌≤◌, ◌≡◌, Bool, false, List, [], ◌∷◌, ◌++◌, map, eqb, length, take}
use Rattle.std.specs.Prelude.{drop, Err, Ok, Result}
use Rattle.bounds.specs.Bounds.{max_delivery_delay}
use Rattle.refusal.specs.Clauses.{any_of}
use Rattle.events.specs.Events.{ForwardEvent}
use Rattle.lent_events.specs.Checks.{max_seq_num, max_copies, max_fold, any_above}
use Rattle.text.specs.Letters.{line_feed}
use Rattle.report.specs.Page.{Column}
use Rattle.refusal.specs.declared.Refusal.{Refusal}

abbrev pub line_width : ℕ
line_width = 72

-- one of the letters is a line feed
unfoldable pub breaks : List ℕ → Bool
breaks letters = any_of (map (eqb line_feed) letters)

-- lines: so many letters, none of them a line feed, and then a line feed
pub data InLines (width : ℕ) : ℕ → List ℕ → Type 0 where
  none : InLines width 0 []
  more : {n : ℕ} {rest : List ℕ} (letters : List ℕ) → length letters ≡ width → breaks letters ≡ false
      → InLines width n rest → InLines width (suc n) (letters ++ (line_feed ∷ rest))

-- a text that its column holds
pub record Fits (c : Column) : Type 0 where
  pub size : length c.text ≤ c.width
  pub plain : breaks c.text ≡ false

abbrev pub AllFit : List Column → Type 0
AllFit [] = Unit {0}
AllFit (c ∷ cs) = Fits c × AllFit cs

abbrev pub widths : List Column → ℕ
widths [] = 0
widths (c ∷ cs) = c.width + widths cs

-- what checks 9 and 10 leave of an event
pub record HasRoom (e : ForwardEvent) : Type 0 where
  pub seq : e.seq ≤ max_seq_num
  pub copies : length e.delays ≤ max_copies
  pub delays : any_above max_delivery_delay e.delays ≡ false
  pub folds : any_above max_fold e.folds ≡ false

abbrev pub HaveRoom : List ForwardEvent → Type 0
HaveRoom [] = Unit {0}
HaveRoom (e ∷ es) = HasRoom e × HaveRoom es

-- the page's lines at the front of a buffer, n bytes, and all behind them as it was
pub record Filed (buffer : List ℕ) (count n : ℕ) (after : List ℕ) : Type 0 where
  pub size : n ≡ (count + 2) * (line_width + 1)
  pub room : n ≤ length buffer
  pub lines : InLines line_width (count + 2) (take n after)
  pub behind : drop n after ≡ drop n buffer

-- by the answer: filed, or the buffer as it was
abbrev pub Answered : List ℕ → ℕ → Result ℕ Refusal → List ℕ → Type 0
Answered buffer count (Ok n) after = Filed buffer count n after
Answered buffer count (Err r) after = after ≡ buffer
