-- A house that is opened, and one house more. Assumes nothing.
use Rattle.std.proofs.Common.{◌≡◌, ℕ, ◌+◌, ◌<◌, List, [], ◌∷◌, ◌++◌, map, length, get_or, Ok, Err, Result, MatchResult, vec_items, sym, refl, ap, ◌∙◌, subst, inl, inr, arith}
use Rattle.std.specs.Result.{IsErrAnd}
use Rattle.std.proofs.lemmas.List.{ext_get_or, length_push, length-map, get_or-map, get_or_push, get_or_append_left, map_push}
use Rattle.std.proofs.lemmas.Bool.{cases_lt}
use Rattle.protocol.specs.declared.Name.{Name}
use Rattle.protocol.specs.House.{stock}
use Rattle.protocol.specs.State.{State, state_of}
use Rattle.names.specs.Index.{in_index}
use Rattle.names.specs.declared.NameIndex.{NameIndex}
use Rattle.orders.specs.Order.{Rec, entry_model}
use Rattle.orders.specs.File.{records}
use Rattle.entries.specs.Named.{named_of}
use Rattle.ledger.specs.View.{view}
use Rattle.ledger.specs.Opening.{Opened, Cause}
use Rattle.ledger.specs.declared.Ledger.{Ledger}
use Rattle.ledger.specs.declared.Trouble.{Trouble}
use Rattle.ledger.specs.declared.Trouble.TheVariants.{Refused, NoMemory}
use Rattle.orders.proofs.Files.{file-one-reading}
use Rattle.orders.proofs.Listing.{file-listed}
use Rattle.ledger.proofs.Once.{says-file}
use Rattle.audit_search.specs.declared.house.House.{House}
use Rattle.audit_search.specs.declared.faults.Fault.{Fault}
use Rattle.audit_search.specs.declared.faults.Fault.TheVariants as fault
use Rattle.audit_search.specs.Account.{Account, account_of, was_done}
use Rattle.audit_search.specs.Search.{shelves_from, why_shut}
use Rattle.audit_search.specs.Audited.{Opens, OpenTo, AllOpen, ReadOnce, HouseOpened, AllOpened, StandTo, account, shelves_of}

-- the records of a file that opens are those that are read from its bytes
only-records : (n h : ℕ) (bs : List ℕ) (rs : List Rec) → Opens n h bs rs → records n bs ≡ rs
only-records n h bs rs p =
    let l = file-listed n bs in
    (file-one-reading n bs _ _ _ _ l.1 l.2 p.opened.read (λ r rest e. let z : ◌≡◌ {A = ℕ} 0 1 = cc in omega arith)).0 ∙ sym p.says

module _ (n h : ℕ) (bs : List ℕ) (before after : List ℕ) where
  pub house-opened : (l : Ledger) (done : NameIndex) (ws : List ℕ) → Opened n h bs before after (Ok l) → ((d : Name) → in_index done d ≡ was_done d (records n bs)) → ws ≡ after →
      (rs : List Rec) × Opens n h bs rs × (◌≡◌ {A = Account} (record { ruled = in_index l.ruled; held = map named_of (vec_items l.held); done = in_index done }) (account_of rs)) × (ws ≡ stock entry_model h rs)
  house-opened l done ws p f e =
      let q = p.1 in
      let s : view l after ≡ state_of entry_model h q.records = says-file n h bs (view l after) q in
      let o : Opens n h bs q.records = record { state = view l after; opened = q; ends = p.2; says = refl } in (
        q.records,
        o,
        (λ i. record { ruled = (s i).ruled; held = (s i).held; done = λ d. (f d ∙ ap (was_done d) (only-records n h bs q.records o)) i }),
        e ∙ ap (λ (v : State entry_model). v.shelves) s,
      )

  pub house-refused : (x : Trouble) → Opened n h bs before after (Err x) → HouseOpened n h bs (Err (why_shut h x))
  house-refused (Refused f) p = (refl, p.1)
  house-refused NoMemory p = tt

  -- the ledger's answer with its error mapped
  module _ (post : Trouble → Fault → Type 0) (x : Result Ledger Trouble) (r : Result Ledger Fault) (p : Opened n h bs before after x) (m : MatchResult x (λ l. r ≡ Ok l) (λ t. IsErrAnd r (post t))) where
    pub mapped-ok : (l : Ledger) → r ≡ Ok l → Opened n h bs before after (Ok l)
    mapped-ok l e = grind arith

    pub mapped-err : ((t : Trouble) (f : Fault) → post t f → f ≡ why_shut h t) → (f : Fault) → r ≡ Err f → HouseOpened n h bs (Err f)
    mapped-err says f e = grind (arith, house-refused)

shelves-push : (i : ℕ) (rss : List (List Rec)) (rs : List Rec) (k : ℕ) → k ≡ i + length rss → shelves_from i (rss ++ rs ∷ []) ≡ shelves_from i rss ++ stock entry_model k rs ∷ []
unfolding shelves_from
shelves-push i [] rs k e = let z : i ≡ k = omega arith in ap (λ j. stock entry_model j rs ∷ []) z
shelves-push i (qs ∷ rss) rs k e = ap (λ w. stock entry_model i qs ∷ w) (shelves-push (i + 1) rss rs k (omega arith))

module _ (fs : List (List ℕ)) where
  pub stand-none : StandTo 0 fs []
  unfolding shelves_from
  stand-none = record { records = []; opened = record { count = refl; each = λ i l. absurd (omega arith) }; accounts = refl; shelves = refl }

  module _ (i n : ℕ) (bs : List ℕ) (all : n ≡ length fs) (at : bs ≡ get_or fs i []) (ks : List House) (p : StandTo i fs ks) where
    open_more : (rs : List Rec) → Opens n i bs rs → (j : ℕ) → j < i + 1 → Opens (length fs) j (get_or fs j []) (get_or (p.records ++ rs ∷ []) j [])
    open_more rs q j l = elim (cases_lt j i) [
      | inl less ↦ subst (Opens (length fs) j (get_or fs j [])) (sym (get_or_append_left p.records (rs ∷ []) [] j (subst (λ m. j < m) (sym p.opened.count) less))) (p.opened.each j less)
      | inr more ↦ let e : i ≡ j = omega arith in
          subst (λ k. Opens (length fs) k (get_or fs k []) (get_or (p.records ++ rs ∷ []) k [])) e
          (subst (Opens (length fs) i (get_or fs i [])) (sym (get_or_push p.records rs [] i p.opened.count))
          (subst (λ m. Opens m i (get_or fs i []) rs) all (subst (λ w. Opens n i w rs) at q)))
    ]

    pub stand-more : (k : House) (new : List House) → HouseOpened n i bs (Ok k) → new ≡ ks ++ k ∷ [] → StandTo (i + 1) fs new
    stand-more k new q e =
        let rs = q.0 in record {
          records = p.records ++ rs ∷ [];
          opened = record { count = length_push p.records rs ∙ ap (λ m. m + 1) p.opened.count; each = open_more rs q.1 };
          accounts = ap (map account) e ∙ map_push account ks k ∙ (λ j. p.accounts j ++ q.2 j ∷ []) ∙ sym (map_push account_of p.records rs);
          shelves = ap (map shelves_of) e ∙ map_push shelves_of ks k ∙ (λ j. p.shelves j ++ q.3 j ∷ []) ∙ sym (shelves-push 0 p.records rs i (let z = p.opened.count in omega arith));
        }

    pub stand-refused : i < length fs → (x : Fault) → HouseOpened n i bs (Err x) → AllOpened fs (Err x)
    stand-refused l (fault.Refused f h) q =
        let e = sym q.0 in
        subst (λ j. (j < length fs) × ((rss : List (List Rec)) × OpenTo j fs rss) × Cause (length fs) j (get_or fs j []) f) e
        (l, (p.records, p.opened), subst (λ m. Cause m i (get_or fs i []) f) all (subst (λ w. Cause n i w f) at q.1))
    stand-refused l (fault.DoneWithoutRuling h d) q = q
    stand-refused l (fault.RuledAndMissing h d) q = q
    stand-refused l fault.NoMemory q = tt

-- the records of files that open are those that are read from their bytes
pub only-files : (fs : List (List ℕ)) (rss : List (List Rec)) → AllOpen fs rss → map (records (length fs)) fs ≡ rss
only-files fs rss p = ext_get_or [] (map (records (length fs)) fs) rss (length-map fs (records (length fs)) ∙ sym p.count) each
  where
    each : (i : ℕ) → i < length (map (records (length fs)) fs) → get_or (map (records (length fs)) fs) i [] ≡ get_or rss i []
    each i l =
        let m : i < length fs = subst (λ k. i < k) (length-map fs (records (length fs))) l in
        get_or-map (records (length fs)) fs i [] [] m ∙ only-records (length fs) i (get_or fs i []) (get_or rss i []) (p.each i m)

pub read-once : ReadOnce
read-once fs rss qss p q = sym (only-files fs rss p) ∙ only-files fs qss q
