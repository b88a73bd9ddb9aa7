use Rattle.std.proofs.Common.{ℕ, ap, subst}
use Rattle.machine.specs.Meaning.{Meaning, Lawful}
use Rattle.estimate.specs.Meaning.{Admissible}
use Rattle.search.specs.Search.{plan, searched, all_looks, search}
use Rattle.search.specs.Shortest.{FindsShortest}
use Rattle.search.proofs.Searches.{Ends, ends, none_if, some_looks}
use Rattle.search.proofs.Limits.{all_looks_limit}

pub finds_shortest : {S : Type 0} (m : Meaning S) (e : S → ℕ) → Lawful m → Admissible m e → (limit : ℕ) (s : S) → FindsShortest m e limit s
finds_shortest m e law low limit s =
    let ended = ends m e limit s law low in
    record {
      found = λ p is. subst (Ends m limit s) is ended;
      none = (λ is. subst (Ends m limit s) is ended, none_if m e limit s law low (plan (all_looks m e limit s)) ended);
      some_looks = some_looks m e limit s;
      by_values = λ f same i. search m (λ t. same t i) limit s;
      by_limit = λ p is other fits. ap searched (all_looks_limit m e limit s law low other p (subst (Ends m limit s) is ended).brings fits is);
    }
