-- Document 02, request 3: "Print one line for each region, in order of its lowest pen".
use Rattle.std.specs.Prelude.{ℕ, ◌*◌, Bool, List, [], eqb, ltb, length, get_or, Result, Ok, Err}
use Rattle.std.specs.Int.Count.{ones, count_trailing_zeros}
use Rattle.base.specs.Iter.{pick}
use Rattle.base.specs.Lists.{collect, total}
use Rattle.text_writer.specs.Written.{put}
use Rattle.pages.specs.Sets.{set_of}
use Rattle.pages.specs.Line.{line}
use Rattle.pages.specs.declared.PageError.{PageError}
use Rattle.pages.specs.declared.PageError.TheVariants.{TooSmall, Unknown}

-- what is known of the regions: the label of each vertex, and at a label the region's weight and bounds
pub record Figures : Type 0 where
  pub label : ℕ → ℕ
  pub weight : ℕ → ℕ
  pub lower : ℕ → ℕ
  pub upper : ℕ → ℕ

abbrev pub figures_of : List ℕ → List ℕ → List ℕ → List ℕ → Figures
figures_of labels weights lowers uppers = record {
  label = λ v. get_or labels v 0;
  weight = λ r. get_or weights r 0;
  lower = λ r. get_or lowers r 0;
  upper = λ r. get_or uppers r 0;
}

-- the line of a region by its set: "its pens are counted from that set", and its lowest bit is its lowest vertex
unfoldable pub set_line : ℕ → ℕ → ℕ → ℕ → List ℕ
set_line set weight lower upper = line (count_trailing_zeros 64 set) (ones set) weight lower upper

-- the line of the region with label r, of n vertices
unfoldable pub region_line : Figures → ℕ → ℕ → List ℕ
region_line t n r = set_line (set_of t.label n r) (t.weight r) (t.lower r) (t.upper r)

-- a region's label is its lowest vertex, and has itself as its label
abbrev pub is_label : (ℕ → ℕ) → ℕ → Bool
is_label label r = eqb (label r) r

unfoldable pub num_regions : (ℕ → ℕ) → ℕ → ℕ
num_regions label n = total (is_label label) (λ _. 1) n

-- the line of vertex r, where it is a label
unfoldable pub line_of : Figures → ℕ → ℕ → List ℕ
line_of t n r = pick (is_label t.label r) (region_line t n r) []

-- the page of n vertices: "one line for each region, in order of its lowest pen"
unfoldable pub page_text : Figures → ℕ → List ℕ
page_text t n = collect (line_of t n) n

-- what is answered, and the buffer then
pub record PageBuffer : Type 0 where
  pub printed : Result ℕ PageError
  pub buffer : List ℕ

abbrev pub page_buffer : Result ℕ PageError → List ℕ → PageBuffer
page_buffer r b = record { printed = r; buffer = b }

-- "so 39 bytes": the page from the buffer's start on, where it fits; all else of it stays
unfoldable pub printed_in : Figures → ℕ → List ℕ → PageBuffer
printed_in t n b =
    pick (ltb 64 n) (page_buffer (Err Unknown) b)
    (pick (ltb (length b) (39 * num_regions t.label n)) (page_buffer (Err TooSmall) b)
    (page_buffer (Ok (39 * num_regions t.label n)) (put b 0 (page_text t n))))
