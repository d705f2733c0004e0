-- What the devices of a command reveal at one moment.
use Rattle.std.specs.Prelude.{◌≡◌, ℕ, List, Option}
use Rattle.page_io.specs.FolderContents.{FolderContents}

pub record Devices : Type 0 where
  -- the files that the folder holds, and how many of its calls failed
  pub held : Option FolderContents
  pub folder_faults : ℕ
  -- the bytes that the input has left
  pub left : Option (List ℕ)
  pub input_faults : ℕ
  -- the bytes that the output has got
  pub taken : Option (List ℕ)
  pub output_faults : ℕ
  -- the bytes that the sink for people has got
  pub said : Option (List ℕ)
  pub people_faults : ℕ

abbrev pub devices : Option FolderContents → ℕ → Option (List ℕ) → ℕ → Option (List ℕ) → ℕ → Option (List ℕ)
    → ℕ → Devices
devices held folder_faults left input_faults taken output_faults said people_faults = record {
  held = held;
  folder_faults = folder_faults;
  left = left;
  input_faults = input_faults;
  taken = taken;
  output_faults = output_faults;
  said = said;
  people_faults = people_faults;
}

-- nothing was read of an input with these bytes left and this count of faults, and no call on it failed
abbrev pub IsUnread : Option (List ℕ) → ℕ → Option (List ℕ) → ℕ → Type 0
IsUnread left faults left_after faults_after = (left_after ≡ left) × (faults_after ≡ faults)
