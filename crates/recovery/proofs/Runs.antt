-- The proof of the claim of runs in specs/Runs.antt.
use Rattle.std.specs.Prelude.{◌≡◌, refl, List, [], ◌∷◌, ◌++◌}
use Rattle.std.proofs.Common.{ap, ◌∙◌}
use Rattle.rate_control.specs.declared.RateControl.{RateControl}
use Rattle.recovery.specs.Recovery.{Each, Finite, after_all}
use Rattle.recovery.specs.Runs.{Machine, Holds, Keeps, run, changes}
use Rattle.recovery.proofs.RecoveryProof.{recovers}

module _ {Link Call : Type 0} (m : Machine Link Call) where
  module _ {Good : Link → Type 0} (keeps : Keeps m Good) where
    run-good : (l : Link) (ks : List Call) → Good l → Good (run m l ks)
    run-good l [] g = g
    run-good l (k ∷ ks) g = run-good (m.step l k) ks (keeps.good-after l k g)

    changes-finite : (l : Link) (ks : List Call) → Good l → Each Finite (changes m l ks)
    changes-finite l [] g = tt
    changes-finite l (k ∷ ks) g = (keeps.good-finite l k g, changes-finite (m.step l k) ks (keeps.good-after l k g))

    run-control : (l : Link) (ks : List Call) → m.control (run m l ks) ≡ after_all (m.control l) (changes m l ks)
    run-control l [] = refl
    run-control l (k ∷ ks) = run-control (m.step l k) ks ∙ ap (λ (c : RateControl). after_all c (changes m (m.step l k) ks)) (keeps.control-after l k)

    run-append : (l : Link) (xs ys : List Call) → run m l (xs ++ ys) ≡ run m (run m l xs) ys
    run-append l [] ys = refl
    run-append l (x ∷ xs) ys = run-append (m.step l x) xs ys

    pub holds : (l : Link) → Good l → (calls : List Call) → Holds m l calls
    holds l g calls = record {
      estimate-in = (keeps.good-sound (run m l calls) (run-good l calls g)).in-range;
      threshold-in = keeps.good-threshold (run m l calls) (run-good l calls g);
      recovery = λ before later e n R r s u.
          let g' : Good (run m l before) = run-good l before g in
          rw (e, run-append l before later, run-control (run m l before) later)
          (recovers (m.control (run m l before)) (changes m (run m l before) later) (keeps.good-sound (run m l before) g') (changes-finite (run m l before) later g') n R r s u);
    }
