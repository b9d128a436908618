-- The records of a file as a list. Assumes nothing.
use Rattle.std.proofs.Common.{◌≡◌, ℕ, zero, suc, ◌-◌, ◌<◌, ◌≤◌, List, [], ◌∷◌, length, take, drop, Ok, Err, Result, sym, refl, ap, ◌∙◌, subst, arith, length-append}
use Rattle.std.proofs.lemmas.List.{take_rest}
use Rattle.orders.specs.declared.Record.{Record}
use Rattle.orders.specs.declared.Order.{Order as Slots}
use Rattle.orders.specs.declared.read.ReadError.{ReadError}
use Rattle.orders.specs.declared.read.ReadError.TheVariants.{Cut, Refused}
use Rattle.orders.specs.Order.{Rec}
use Rattle.orders.specs.Parse.{Got, got, cut, bad, form, parse}
use Rattle.orders.specs.Answers.{record_read}
use Rattle.orders.specs.File.{Reached, start, Ended, then_records, first_records, records, FileListed}
use Rattle.orders.proofs.Taking.{Takes, parse-takes}
use Rattle.orders.proofs.Files.{before}

shorter : (n : ℕ) (bs rest : List ℕ) (r : Rec) → parse n bs ≡ got r rest → length rest < length bs
shorter n bs rest r e =
    let t : Takes 1 bs (got r rest) = subst (Takes 1 bs) e (parse-takes n bs) in
    omega (arith, t.2, ap length t.1, length-append t.0 rest)

-- as many turns as there are bytes are enough
enough : (n j k : ℕ) (bs : List ℕ) → length bs ≤ j → length bs ≤ k → first_records n j bs ≡ first_records n k bs
unfolding first_records form
enough n zero zero bs l m = refl
enough n zero (suc k) [] l m = refl
enough n zero (suc k) (b ∷ bs) l m = absurd (omega arith)
enough n (suc j) zero [] l m = refl
enough n (suc j) zero (b ∷ bs) l m = absurd (omega arith)
enough n (suc j) (suc k) bs l m = same (λ rest r e. let fewer = shorter n bs rest r e in enough n j k rest (omega arith) (omega arith)) (parse n bs) refl
  where
    same : ((rest : List ℕ) (r : Rec) → parse n bs ≡ got r rest → first_records n j rest ≡ first_records n k rest) → (g : Got Rec) → parse n bs ≡ g → then_records (first_records n j) g ≡ then_records (first_records n k) g
    same on (got r rest) e = ap (λ rs. r ∷ rs) (on rest r e)
    same on cut e = refl
    same on (bad x) e = refl

one-turn : (n : ℕ) (bs : List ℕ) → records n bs ≡ then_records (first_records n (length bs)) (parse n bs)
unfolding records first_records
one-turn n bs = enough n (length bs) (suc (length bs)) bs (omega arith) (omega arith)

pub records-more : (n : ℕ) (bs rest : List ℕ) (r : Rec) → got r rest ≡ parse n bs → records n bs ≡ r ∷ records n rest
unfolding records
records-more n bs rest r e =
    let fewer = shorter n bs rest r (sym e) in
    one-turn n bs ∙ ap (then_records (first_records n (length bs))) (sym e) ∙ ap (λ rs. r ∷ rs) (enough n (length bs) (length rest) rest (omega arith) (omega arith))

pub records-next : (n next : ℕ) (bs ys : List ℕ) (r : Rec) → ys ≡ take (length bs - next) (drop next bs) → got r (drop next bs) ≡ parse n bs → records n bs ≡ r ∷ records n ys
records-next n next bs ys r d e = records-more n bs (drop next bs) r e ∙ ap (λ xs. r ∷ records n xs) (sym (d ∙ take_rest bs next))

pub records_none : (n : ℕ) (bs cs : List ℕ) (x : Result (Record × Slots × ℕ) ReadError) → record_read cs x ≡ parse n bs → ((p : Record × Slots × ℕ) → x ≡ Ok p → ⊥) → records n bs ≡ []
records_none n bs cs x e nope = one-turn n bs ∙ ap (then_records (first_records n (length bs))) (sym e) ∙ none x nope
  where
    none : (x : Result (Record × Slots × ℕ) ReadError) → ((p : Record × Slots × ℕ) → x ≡ Ok p → ⊥) → then_records (first_records n (length bs)) (record_read cs x) ≡ []
    none (Ok p) nope = absurd (nope p refl)
    none (Err Cut) nope = refl
    none (Err (Refused f)) nope = refl

read-on : (n k : ℕ) (bs : List ℕ) → length bs ≤ k → (xs : List ℕ) × Reached n bs (first_records n k bs) xs × Ended n xs
unfolding first_records form
read-on n zero [] l = ([], start, λ r rest e. let z : ◌≡◌ {A = ℕ} 0 1 = cc in absurd (omega arith))
read-on n zero (b ∷ bs) l = absurd (omega arith)
read-on n (suc k) bs l = by (λ rest r e. let fewer = shorter n bs rest r e in read-on n k rest (omega arith)) (parse n bs) refl
  where
    by : ((rest : List ℕ) (r : Rec) → parse n bs ≡ got r rest → (xs : List ℕ) × Reached n rest (first_records n k rest) xs × Ended n xs) → (g : Got Rec) → parse n bs ≡ g → (xs : List ℕ) × Reached n bs (then_records (first_records n k) g) xs × Ended n xs
    by on (got r rest) e = let more = on rest r e in (more.0, before n bs rest r (first_records n k rest) more.0 e more.1, more.2)
    by on cut e = (bs, start, λ r rest f. let z : ◌≡◌ {A = ℕ} 0 1 = cc in absurd (omega arith))
    by on (bad x) e = (bs, start, λ r rest f. let z : ◌≡◌ {A = ℕ} 0 1 = cc in absurd (omega arith))

pub file-listed : FileListed
unfolding records
file-listed n bs = read-on n (length bs) bs (omega arith)
