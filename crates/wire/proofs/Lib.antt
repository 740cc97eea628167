pub mod Put
pub mod RoundTrip
