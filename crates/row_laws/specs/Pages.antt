-- How much a page gives, and which rows pages one after the other give together.
use Rattle.std.specs.Prelude.{ℕ, ◌-◌, ◌*◌, ◌/◌, ◌≤◌, min, ◌≡◌, List, length, take, drop}
use Rattle.common.specs.Lists.{sum}
use Rattle.row_spec.specs.Page.{Page, numbers_of}
use Rattle.row_spec.specs.declared.Field.{Field}

-- of the rows rs, each of width fields: those from row p on that these rooms take together, each as many whole rows as
-- it holds
abbrev pub rows_taken : ℕ → List (List Field) → ℕ → List ℕ → List (List Field)
rows_taken width rs p rooms = take (sum (λ m. m / (3 * width)) rooms) (drop p rs)

-- the page x from row p on, of rows of width fields each: as many whole rows as the room takes, or all that are left;
-- its numbers fit the room
pub record PageFits (width p room : ℕ) (x : Page) : Type 0 where
  pub given : x.given ≡ min (room / (3 * width)) (x.rows - p)
  pub fields : length x.fields ≡ x.given * width
  pub fit : length (numbers_of x.fields) ≤ room
