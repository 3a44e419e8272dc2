-- The limits of the rules, each under one name; what follows from another is computed from it. `src/limits.rt` has the same for code.
-- Definitions only.
use Rattle.std.specs.Prelude.{ℕ, ◌+◌, ◌-◌, ◌*◌}

-- [1.3] coordinates of a point
abbrev pub most_coordinates : ℕ
most_coordinates = 8

-- [3.1] [5.9] claims of a table; a snapshot counts no more
abbrev pub most_claims : ℕ
most_claims = 4096

-- [1.1] [5.9] numbers begin at 0
abbrev pub most_number : ℕ
most_number = most_claims - 1

-- [1.5] the measures are numbered from the first to the last
abbrev pub first_measure : ℕ
first_measure = 1

abbrev pub last_measure : ℕ
last_measure = 3

-- [4.3] items of a page
abbrev pub most_page : ℕ
most_page = 16

-- [2.6] numbers of a page's items
abbrev pub item_room : ℕ
item_room = 3 * most_page

-- [4.7] numbers of the items that are looked for: those of a page, and one that tells whether the page is the last
abbrev pub scratch_items : ℕ
scratch_items = 3 * (most_page + 1)

-- numbers of the nodes that a table is built into once more when it is tested
abbrev pub scratch_nodes : ℕ
scratch_nodes = 6 * most_claims

-- [5.6] [5.11] bytes of the longest frame, an answer's
abbrev pub longest_frame : ℕ
longest_frame = 30 + 4 * most_coordinates + 14 * most_page

-- [5.1] [5.11] characters of the longest line of each kind: two for each byte, and one for the line's end
abbrev pub longest_answer : ℕ
longest_answer = 2 * longest_frame + 1

abbrev pub longest_ask : ℕ
longest_ask = 2 * (29 + 4 * most_coordinates) + 1

abbrev pub longest_claim : ℕ
longest_claim = 2 * (11 + 4 * most_coordinates) + 1

-- [10.1] the office program's table: claims, coordinates, numbers of nodes
abbrev pub office_claims : ℕ
office_claims = 1024

abbrev pub office_coordinates : ℕ
office_coordinates = most_coordinates * office_claims

abbrev pub office_nodes : ℕ
office_nodes = 6 * office_claims
