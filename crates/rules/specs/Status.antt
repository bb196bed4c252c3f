-- The status of each answer: document 01's list for 0 to 40, document 02's 41 to 43 behind it, and 500 for any other number.
use Rattle.std.specs.Prelude.{List, [], ◌∷◌, ℕ, get_or}

abbrev pub statuses : List ℕ
statuses =
    200 ∷ 500 ∷ 500 ∷ 400 ∷ 409 ∷ 503 ∷ 400 ∷ 403 ∷ 400 ∷ 400 ∷ 400 ∷ 409 ∷ 400 ∷ 404 ∷ 403 ∷ 400 ∷ 404 ∷ 402 ∷ 400 ∷ 429 ∷ 400
    ∷ 400 ∷ 404 ∷ 404 ∷ 400 ∷ 400 ∷ 400 ∷ 404 ∷ 403 ∷ 409 ∷ 400 ∷ 400 ∷ 404 ∷ 403 ∷ 409 ∷ 400 ∷ 409 ∷ 507 ∷ 507 ∷ 507 ∷ 507 ∷ 409 ∷ 409 ∷ 403 ∷ []

abbrev pub status_of : ℕ → ℕ
status_of number = get_or statuses number 500
