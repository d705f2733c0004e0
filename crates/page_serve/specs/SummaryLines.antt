-- The lines of what the workers did.
use Rattle.std.specs.Prelude.{ℕ, ◌+◌, Bool, codes, List, [], ◌∷◌, ◌++◌}
use Rattle.std.specs.Fmt.{decimal}
use Rattle.std.specs.List.{list_any}
use Rattle.page_worker.specs.declared.ended.Ended.{Ended}
use Rattle.page_worker.specs.declared.work_end.WorkEnd.{WorkEnd}

-- the line of the worker with this number: how many links it served, how many requests it answered on them, and the number of the set in
-- the last reply
abbrev pub worker_line : ℕ → WorkEnd → List ℕ
worker_line number end =
    codes "worker " ++ (decimal number ++ (codes ": links " ++ (decimal end.links
    ++ (codes " requests " ++ (decimal end.requests ++ (codes " set " ++ (decimal end.last ++ 10 ∷ [])))))))

-- the lines of workers that are counted from this number
abbrev pub summary_lines : {D : Type 0} → ℕ → List (Ended D) → List ℕ
summary_lines number [] = []
summary_lines number (e ∷ ends) = worker_line number e.end ++ summary_lines (number + 1) ends

-- whether the work of one of them ended because its door failed
abbrev pub has_door_fault : {D : Type 0} → List (Ended D) → Bool
has_door_fault ends = list_any (λ e. e.end.door_fault) ends
