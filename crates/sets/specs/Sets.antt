-- Sets of tasks as numbers: bit n stands for task n.
use Rattle.std.specs.Prelude.{Bool, cond, not, ◌&&◌, ◌||◌, List, [], ◌∷◌, ◌++◌, ℕ, zero, suc, ◌+◌, ◌/◌, ◌%◌, ◌^◌, eqb}

unfoldable pub member : ℕ → ℕ → Bool
member n s = eqb ((s / 2 ^ n) % 2) 1

-- the set of the tasks below k that pass a test
unfoldable pub below : ℕ → (ℕ → Bool) → ℕ
below zero p = 0
below (suc k) p = below k p + cond (p k) (2 ^ k) 0

unfoldable pub collect : (ℕ → Bool) → ℕ
unfolding below
collect p = below 32 p

unfoldable pub union : ℕ → ℕ → ℕ
union s t = collect (λ k. member k s || member k t)

unfoldable pub intersection : ℕ → ℕ → ℕ
intersection s t = collect (λ k. member k s && member k t)

unfoldable pub difference : ℕ → ℕ → ℕ
difference s t = collect (λ k. member k s && not (member k t))

unfoldable pub insert : ℕ → ℕ → ℕ
insert n s = collect (λ k. eqb k n || member k s)

unfoldable pub remove : ℕ → ℕ → ℕ
remove n s = collect (λ k. not (eqb k n) && member k s)

-- ---- How many members a set has

abbrev pub bit : Bool → ℕ
bit b = cond b 1 0

-- how many of the tasks below k pass a test
unfoldable pub count : ℕ → (ℕ → Bool) → ℕ
count zero p = 0
count (suc k) p = count k p + bit (p k)

unfoldable pub size : ℕ → ℕ
size s = count 32 (λ k. member k s)

-- ---- The lowest member

-- the lowest member among the lowest k bits, counted from the lowest bit; k if there is none
unfoldable pub lowest_in : ℕ → ℕ → ℕ
lowest_in zero s = 0
lowest_in (suc k) s = cond (member 0 s) 0 (suc (lowest_in k (s / 2)))

-- the lowest member; 32 if there is none
unfoldable pub lowest : ℕ → ℕ
unfolding lowest_in
lowest s = lowest_in 32 s

-- ---- One by one

-- the members below k, lowest first
unfoldable pub members_below : ℕ → ℕ → List ℕ
members_below zero s = []
members_below (suc k) s = members_below k s ++ cond (member k s) (k ∷ []) []
