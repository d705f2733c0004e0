mod Schemes
