pub mod FreshDoors
