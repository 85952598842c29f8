-- A well-formed sheet in plain terms, both ways: its mark, its version and its length, in either form.
use Rattle.std.specs.Prelude.{ℕ, ◌+◌, ◌*◌, ◌≤◌, List, ◌≡◌, get_or}
use Rattle.std.proofs.Math.ListN.{length}
use Rattle.request_table.specs.Limits.{greatest_rows}
use Rattle.sheet_rule.specs.Sheet.{version, row_count}

-- The versions that there are, with the bytes of their rows.
pub data Form : ℕ → ℕ → Type 0 where
  requests : Form 1 16
  shapes : Form 2 52

-- The mark ARN, that version, 11 bytes and so many for each row, and no more rows than a table may have.
pub record GoodSheet (sheet : List ℕ) (number bytes : ℕ) : Type 0 where
  pub first_byte : get_or sheet 0 0 ≡ 65
  pub second_byte : get_or sheet 1 0 ≡ 82
  pub third_byte : get_or sheet 2 0 ≡ 78
  pub version_is : version sheet ≡ number
  pub whole : length sheet ≡ 11 + row_count sheet * bytes
  pub few : row_count sheet ≤ greatest_rows

-- A sheet that is good in one of the forms.
pub record Good (sheet : List ℕ) : Type 0 where
  pub number : ℕ
  pub bytes : ℕ
  pub form : Form number bytes
  pub good : GoodSheet sheet number bytes
