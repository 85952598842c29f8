-- What is so of every entry of a list, and of every two, by their indices.
--     Each So xs d       So of the entry at each index
--     EachTwo So xs d    So of the entries at any two indices i < j
-- d is what stands past the end of the list, where no index of these reaches. A list grows in front by `each_more` and `two_more`.
use Rattle.std.specs.Prelude.{ℕ, ◌<◌, List, length, get_or}

-- It is so of every entry.
abbrev pub Each : {A : Type 0} → (A → Type 0) → List A → A → Type 0
Each So xs d = (i : ℕ) → i < length xs → So (get_or xs i d)

-- It is so of every two entries, the earlier one first.
abbrev pub EachTwo : {A : Type 0} → (A → A → Type 0) → List A → A → Type 0
EachTwo So xs d = (i j : ℕ) → i < j → j < length xs → So (get_or xs i d) (get_or xs j d)
