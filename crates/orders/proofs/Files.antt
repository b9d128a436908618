-- The laws of whole files. Assumes nothing.
use Rattle.std.proofs.Common.{◌≡◌, ℕ, List, [], ◌∷◌, ◌++◌, take, sym, refl, ap, ◌∙◌, subst, append_assoc, append-nil}
use Rattle.orders.specs.Order.{Rec}
use Rattle.orders.specs.Parse.{got, parse}
use Rattle.orders.specs.Encode.{rec_bytes}
use Rattle.orders.specs.Laws.{Bytes}
use Rattle.orders.specs.File.{Reached, start, next, Ended, all_bytes, AllFit, FileReadsBack, FileCutShort, FileOneReading, FileOneForm, FileAppended}
use Rattle.orders.proofs.ReadBack.{reads-back}
use Rattle.orders.proofs.OneForm.{one_form, bytes_rest}
use Rattle.orders.proofs.Longer.{cut_short, more-behind}

-- one record more in front
pub before : (n : ℕ) (bs cs : List ℕ) (r : Rec) (rs : List Rec) (xs : List ℕ) → parse n bs ≡ got r cs → Reached n cs rs xs → Reached n bs (r ∷ rs) xs
before n bs cs r rs xs e start = next [] bs cs r start e
before n bs cs r rs xs e (next qs ys rest q h f) = next (r ∷ qs) ys rest q (before n bs cs r qs ys e h) f

-- records that were written are read, whatever stands behind them
pub written : (n : ℕ) (rs : List Rec) (ys : List ℕ) → AllFit n rs → Reached n (all_bytes rs ++ ys) rs ys
written n [] ys h = start
written n (r ∷ rs) ys h =
    before n _ (all_bytes rs ++ ys) r rs ys (ap (parse n) (append_assoc (rec_bytes r) (all_bytes rs) ys) ∙ reads-back n r (all_bytes rs ++ ys) h.0) (written n rs ys h.1)

pub file-reads-back : FileReadsBack
file-reads-back n rs all = subst (λ bs. Reached n bs rs []) (append-nil (all_bytes rs)) (written n rs [] all)

pub file-cut-short : FileCutShort
file-cut-short n rs r k all ok h = (written n rs (take k (rec_bytes r)) all, cut_short n r k ok h)

-- bytes behind a file change nothing of what was read
pub longer : (n : ℕ) (bs : List ℕ) (rs : List Rec) (xs q : List ℕ) → Reached n bs rs xs → Reached n (bs ++ q) rs (xs ++ q)
longer n bs rs xs q start = start
longer n bs rs xs q (next qs ys rest r h f) = next qs (ys ++ q) (rest ++ q) r (longer n bs qs ys q h) (more-behind n ys rest q r f)

pub file-appended : FileAppended
file-appended n bs rs r h ok =
    next rs (rec_bytes r) [] r (longer n bs rs [] (rec_bytes r) h) (ap (parse n) (sym (append-nil (rec_bytes r))) ∙ reads-back n r [] ok)

-- the bytes of one record more
pub bytes-snoc : (rs : List Rec) (r : Rec) → all_bytes (rs ++ (r ∷ [])) ≡ all_bytes rs ++ rec_bytes r
bytes-snoc [] r = append-nil (rec_bytes r)
bytes-snoc (x ∷ rs) r = ap (λ (bs : List ℕ). rec_bytes x ++ bs) (bytes-snoc rs r) ∙ sym (append_assoc (rec_bytes x) (all_bytes rs) (rec_bytes r))

all_push : (rs : List Rec) (r : Rec) (xs : List ℕ) → all_bytes (rs ++ r ∷ []) ++ xs ≡ all_bytes rs ++ (rec_bytes r ++ xs)
all_push rs r xs = ap (λ w. w ++ xs) (bytes-snoc rs r) ∙ append_assoc (all_bytes rs) (rec_bytes r) xs

pub file-one-form : FileOneForm
file-one-form n bs rs xs b start = refl
file-one-form n bs rs xs b (next qs ys rest r h f) =
    let e = file-one-form n bs qs ys b h in
    e ∙ ap (λ w. all_bytes qs ++ w) (one_form n ys rest r (bytes_rest (all_bytes qs) ys (subst Bytes e b)) f) ∙ sym (all_push qs r rest)

-- the same reading, from its first record on
pub data Front (n : ℕ) : List ℕ → List Rec → List ℕ → Type 0 where
  none : (bs : List ℕ) → Front n bs [] bs
  first : (bs cs : List ℕ) (r : Rec) (rs : List Rec) (xs : List ℕ) → parse n bs ≡ got r cs → Front n cs rs xs → Front n bs (r ∷ rs) xs

push : (n : ℕ) (bs : List ℕ) (rs : List Rec) (xs rest : List ℕ) (r : Rec) → Front n bs rs xs → parse n xs ≡ got r rest → Front n bs (rs ++ r ∷ []) rest
push n bs rs xs rest r (none os) e = first os rest r [] rest e (none rest)
push n bs rs xs rest r (first os cs q qs ys f h) e = first os cs q (qs ++ r ∷ []) rest f (push n cs qs ys rest r h e)

pub front : (n : ℕ) (bs : List ℕ) (rs : List Rec) (xs : List ℕ) → Reached n bs rs xs → Front n bs rs xs
front n bs rs xs start = none bs
front n bs rs xs (next qs ys rest r h f) = push n bs qs ys rest r (front n bs qs ys h) f

one-front : (n : ℕ) (bs : List ℕ) (rs qs : List Rec) (xs ys : List ℕ) → Front n bs rs xs → Ended n xs → Front n bs qs ys → Ended n ys → (rs ≡ qs) × (xs ≡ ys)
one-front n bs rs qs xs ys (none os) endx (none zs) endy = (refl, refl)
one-front n bs rs qs xs ys (none os) endx (first zs cs q ts vs f k) endy = absurd (endx q cs f)
one-front n bs rs qs xs ys (first os cs r us ws e h) endx (none zs) endy = absurd (endy r cs e)
one-front n bs rs qs xs ys (first os cs r us ws e h) endx (first zs ds q ts vs f k) endy =
    let same : r ≡ q = cc in
    let left : ds ≡ cs = cc in
    let on = one-front n cs us ts ws vs h endx (subst (λ w. Front n w ts vs) left k) endy in
    let rest = on.0 in
    ((λ i. same i ∷ rest i), on.1)

pub file-one-reading : FileOneReading
file-one-reading n bs rs qs xs ys h endx k endy = one-front n bs rs qs xs ys (front n bs rs xs h) endx (front n bs qs ys k) endy
