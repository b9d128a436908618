-- How a step ends: refused or accepted, as planned.
use Rattle.std.proofs.Common.{◌≡◌, ℕ, Bool, true, false, not, ◌&&◌, ◌||◌, eqb, ltb, leb, List, [], ◌∷◌, ◌++◌, length, Ok, Err, sym, refl, ap, ◌∙◌}
use Rattle.protocol.specs.declared.Name.{Name}
use Rattle.protocol.specs.Model.{same_name}
use Rattle.protocol.specs.Net.{Asking, Memory, Hold, Told, nobody, asked, voted}
use Rattle.protocol.specs.Plan.{Output, Work, Verdict, refused, does, unless, speak, plan_submit, plan_vote, plan_give_up, plan_give_up_of, keep_asking}
use Rattle.orders.specs.declared.Refusal.{Refusal}
use Rattle.orders.specs.Order.{Order, entry_model}
use Rattle.orders.specs.Refusals.{number_of}
use Rattle.home.specs.declared.memory.Home.{Home}
use Rattle.home.specs.Memory.{memory_of}
use Rattle.home.specs.Verdicts.{in_range, memory_after, stop_asking, Ended}
use Rattle.home.proofs.Asks.{none-asked, some-asked}

module _ (plan : Verdict (Work entry_model)) (out : Output entry_model) where
  pub refuses : (h : Home) (f : Refusal) → refused (number_of f) ≡ plan → Ended plan out h h (Err f)
  refuses h f e = record { decision = e; memory = ap (λ v. memory_after v (memory_of h)) e; house = refl; start = refl }

  pub accepts : (a b : Home) → does (record { out = out; memory = memory_of b }) ≡ plan → b.house ≡ a.house → b.start ≡ a.start → Ended plan out a b (Ok tt)
  accepts a b e h s = record { decision = e; memory = ap (λ v. memory_after v (memory_of a)) e; house = h; start = s }

pub keeps-tried : (tried : Name → Bool) {qs rs : List (Asking entry_model)} → qs ≡ rs → ◌≡◌ {A = Memory entry_model} (record { asking = qs; tried = tried }) (record { asking = rs; tried = tried })
keeps-tried tried e = λ i. record { asking = e i; tried = tried }

-- a memory by its two parts
leaves : (out : Output entry_model) (m k : Memory entry_model) → m.asking ≡ k.asking → m.tried ≡ k.tried → ◌≡◌ {A = Verdict (Work entry_model)} (does (record { out = out; memory = m })) (does (record { out = out; memory = k }))
leaves out m k a t = λ i. does (record { out = out; memory = record { asking = a i; tried = t i } })

pub submits : (i s : ℕ) (t : Order) (m k : Memory entry_model) → leb t.name.number 65535 ≡ true → (eqb t.name.home i && eqb t.name.start s) ≡ true → m.tried t.name ≡ false → leb 64 (length m.asking) ≡ false →
    k.asking ≡ m.asking ++ (record { order = t; yes = nobody entry_model } ∷ []) → k.tried ≡ (λ d. same_name d t.name || m.tried d) →
    does (record { out = speak entry_model (Hold t ∷ []); memory = k }) ≡ in_range (leb t.name.number 65535) (plan_submit entry_model i t s m)
unfolding unless
submits i s t m k ok own fresh room a b =
    let asks : Memory entry_model = record { asking = m.asking ++ (record { order = t; yes = nobody entry_model } ∷ []); tried = λ d. same_name d t.name || m.tried d } in
    let out : Output entry_model = speak entry_model (Hold t ∷ []) in
    leaves out k asks a b
    ∙ (λ z. in_range (sym ok z) (unless ((4, not (sym own z)) ∷ (5, sym fresh z) ∷ (6, sym room z) ∷ []) (record { out = out; memory = asks })))

pub votes : (j : ℕ) (d : Name) (m k : Memory entry_model) → ltb j 16 ≡ true → asked entry_model d m.asking ≡ true → k.asking ≡ voted entry_model j d m.asking → k.tried ≡ m.tried →
    does (record { out = speak entry_model []; memory = k }) ≡ in_range (ltb j 16) (plan_vote entry_model j d m)
unfolding unless
votes j d m k ok there a b =
    let noted : Memory entry_model = keep_asking entry_model (voted entry_model j d m.asking) m in
    let out : Output entry_model = speak entry_model [] in
    leaves out k noted a b ∙ (λ z. in_range (sym ok z) (unless ((12, not (sym there z)) ∷ []) (record { out = out; memory = noted })))

pub unasked : (j : ℕ) (d : Name) (m : Memory entry_model) → ltb j 16 ≡ true → asked entry_model d m.asking ≡ false → refused 12 ≡ in_range (ltb j 16) (plan_vote entry_model j d m)
unfolding unless
unasked j d m ok there = λ z. in_range (sym ok z) (unless ((12, not (sym there z)) ∷ []) (record { out = speak entry_model []; memory = keep_asking entry_model (voted entry_model j d m.asking) m }))

pub gives_up : (d : Name) (m k : Memory entry_model) → asked entry_model d m.asking ≡ true → k ≡ stop_asking d m → does (record { out = speak entry_model (Told d false ∷ []); memory = k }) ≡ plan_give_up entry_model d m
gives_up d m k there e =
    let f = some-asked d m.asking there in
    ap (λ (w : Memory entry_model). does (record { out = speak entry_model (Told d false ∷ []); memory = w })) e
    ∙ ap (λ (x : Name). does (record { out = speak entry_model (Told x false ∷ []); memory = stop_asking x m })) (sym f.1.1)
    ∙ ap (λ o. plan_give_up_of entry_model o m) (sym f.1.0)

pub none-given-up : (d : Name) (m : Memory entry_model) → asked entry_model d m.asking ≡ false → refused 12 ≡ plan_give_up entry_model d m
none-given-up d m there = ap (λ o. plan_give_up_of entry_model o m) (sym (none-asked d m.asking there))
